use Rattle.std.proofs.Common.{vec_items, rules}
use Rattle.index.specs.Contents.{entries}
use Rattle.settings.proofs.Found.{place_told}
use Rattle.settings.proofs.directory.Directory.place_of.Goals as goal

pub returns-clause-place : goal.returns-clause-place
returns-clause-place c =
    let d = c.args.self.now in
    place_told c.args.bic (vec_items d.houses) (entries d.by_bic) ((d.known, d.rising), d.full) c.map.result (search rules)

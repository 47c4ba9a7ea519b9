use Rattle.std.proofs.Common.{◌≡◌, ℕ, ◌<◌, ◌≤◌, map, length, get_or, vec_items, sym, ap, ◌∙◌, subst, arith}
use Rattle.codes.specs.Bics.{bic_formed}
use Rattle.keys.specs.Held.{bic_text}
use Rattle.std.specs.Option.{option_map}
use Rattle.keys.proofs.Forms.{formed_some}
use Rattle.settings.specs.Rules.{entry_text}
use Rattle.settings.specs.Places.{held_house}
use Rattle.settings.proofs.Steps.{no_entry}
use Rattle.settings.proofs.Builds.{formed_at, read_some, held_size, still_new, same_more}
use Rattle.settings.proofs.directory.Directory.of.Goals as goal

pub unwrap-requires : goal.unwrap-requires
unwrap-requires c =
    let es = c.args.entries.now in
    let i : ℕ = c.loop-entry.entry-index in
    read_some c.read.result (entry_text (get_or es i no_entry)) c.read.ensures (formed_at es c.requires.kept i no_entry c.loop-entry-test.true)

pub add-requires : goal.add-requires
add-requires c =
    let es = c.args.entries.now in
    let i : ℕ = c.loop-entry.entry-index in
    let t = entry_text (get_or es i no_entry) in
    let hs = vec_items c.loop-entry.directory.houses in
    let inv = c.loop-entry.invariant in
    let within : i < length es = c.loop-entry-test.true in
    let size : length hs ≡ i = held_size es i hs within inv.same in
    let read = formed_some bic_formed t (bic_text c.unwrap.result) (ap (option_map bic_text) (sym c.unwrap.ensures) ∙ c.read.ensures) in
    record {
      few = omega (arith, c.requires.few);
      room = omega (arith, inv.roomy);
      new = still_new es i hs c.unwrap.result no_entry c.requires.kept within inv.same read.1;
    }

pub loop-entry-preserved : goal.loop-entry-preserved
loop-entry-preserved c =
    let es = c.args.entries.now in
    let i : ℕ = c.loop-entry.entry-index in
    let x = get_or es i no_entry in
    let inv = c.loop-entry.invariant in
    let read = formed_some bic_formed (entry_text x) (bic_text c.unwrap.result) (ap (option_map bic_text) (sym c.unwrap.ensures) ∙ c.read.ensures) in
    record {
      roomy = subst (λ n. length es ≤ n) (sym c.add.ensures.room) inv.roomy;
      same = ap (map held_house) c.add.ensures.houses ∙ same_more es i (vec_items c.loop-entry.directory.houses) (record { bic = c.unwrap.result; suspended = x.suspended }) no_entry c.loop-entry-test.true inv.same (ap (λ u. (u, x.suspended)) read.1);
    }

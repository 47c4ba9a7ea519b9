use Rattle.std.proofs.Common.{rules}
use Rattle.day.proofs.Stores.{put_map}
use Rattle.day.proofs.day.Day.exclude.Goals as goal

pub returns-clause-records_after : goal.returns-clause-records_after
returns-clause-records_after c = put_map _ _ _ _ _ (λ k r b says. search rules) c.put_where.ensures.records

-- The states of a message, told apart.
use Rattle.std.specs.Prelude.{Bool, true, false, ◌||◌}
use Rattle.records.specs.declared.state.State.{State}
use Rattle.records.specs.declared.state.State.TheVariants.{Rejected, Waiting, SettledMorning, SettledAfternoon, Excluded}

abbrev pub waits : State → Bool
waits Waiting = true
waits _ = false

abbrev pub is_rejected : State → Bool
is_rejected (Rejected code message field row) = true
is_rejected _ = false

-- settled in the morning
abbrev pub is_morning : State → Bool
is_morning SettledMorning = true
is_morning _ = false

-- settled in the afternoon
abbrev pub is_afternoon : State → Bool
is_afternoon SettledAfternoon = true
is_afternoon _ = false

-- settled in one cycle or the other
abbrev pub is_settled : State → Bool
is_settled s = is_morning s || is_afternoon s

abbrev pub is_excluded : State → Bool
is_excluded Excluded = true
is_excluded _ = false

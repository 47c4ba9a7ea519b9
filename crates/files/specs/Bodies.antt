-- The verdict on a file's body.
use Rattle.std.specs.Prelude.{◌≡◌, ℕ, ◌≤◌, Bool, true, not, ◌&&◌, List, [], ◌∷◌, length, drop, is_some, Some, None, Ok, Err, Option, Result, ◌==◌, nat_le, nat_lt}
use Rattle.std.specs.Option.{unwrap_or}
use Rattle.frames.specs.Frames.{frames_in, only_frames}
use Rattle.files.specs.declared.control.Control.{Control}
use Rattle.files.specs.declared.control.Expected.{Expected}
use Rattle.files.specs.declared.denial.FileDenial.{FileDenial}
use Rattle.files.specs.declared.denial.FileDenial.TheVariants.{TooLong, NoControl, WrongCount, WrongSum}
use Rattle.files.specs.Amounts.{counted_sum}
use Rattle.files.specs.Control.{control_of}
use Rattle.files.specs.Denials.{first_due}

-- the most bytes of a body
abbrev pub longest_body : ℕ
longest_body = 1048576

-- the most messages of a file
abbrev pub most_messages : ℕ
most_messages = 999

-- what the first frame states, if it is there and is a control message
abbrev pub first_states : List (List ℕ) → Expected → Option Control
first_states [] x = None
first_states (c ∷ cs) x = control_of c x

-- what a body's control message states
unfoldable pub control_of_body : List ℕ → Expected → Option Control
control_of_body b x = first_states (frames_in b) x

-- the contents of the messages: all frames but the first
abbrev pub messages_in : List ℕ → List (List ℕ)
messages_in b = drop 1 (frames_in b)

-- so many messages as were stated, and neither none nor too many
abbrev pub right_count : ℕ → ℕ → Bool
right_count stated n = stated == n && (nat_le 1 n && nat_le n most_messages)

-- what can be wrong with the frames of a body against what its control message states
abbrev pub disagreements : List ℕ → Control → List (FileDenial × Bool)
disagreements b c =
    (NoControl, not (only_frames b))
    ∷ (WrongCount, not (right_count c.count (length (messages_in b))))
    ∷ (WrongSum, not (counted_sum (messages_in b) == c.total))
    ∷ []

-- each denial with the test that it is due, in the order in which they are looked at
abbrev pub denials : List ℕ → Option Control → Control → List (FileDenial × Bool)
denials b o c = (TooLong, nat_lt longest_body (length b)) ∷ (NoControl, not (is_some o)) ∷ disagreements b c

-- what stands for a control message that there is not
abbrev pub nothing : Control
nothing = record { count = 0; total = 0 }

-- the control message, unless a denial is due
abbrev pub answer : Option FileDenial → Control → Result Control FileDenial
answer None c = Ok c
answer (Some d) c = Err d

-- the verdict on a body whose first frame states this
abbrev pub verdict_on : List ℕ → Option Control → Result Control FileDenial
verdict_on b o = answer (first_due (denials b o (unwrap_or o nothing))) (unwrap_or o nothing)

-- the verdict on the body of a file of the expected sender to the clearing in the currency: the control message, or the first denial that is due
abbrev pub body_verdict : List ℕ → Expected → Result Control FileDenial
body_verdict b x = verdict_on b (control_of_body b x)

-- what is known of a body that is not denied
pub record Stands (b : List ℕ) (c : Control) : Type 0 where
  pub whole : only_frames b ≡ true
  pub some : 1 ≤ length (messages_in b)
  pub few : length (messages_in b) ≤ most_messages
  pub count : c.count ≡ length (messages_in b)
  pub total : counted_sum (messages_in b) ≡ c.total

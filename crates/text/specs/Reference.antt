-- References: what a sender calls a message.
use Rattle.std.specs.Prelude.{ℕ, ◌-◌, Bool, false, not, ◌&&◌, ◌||◌, List, [], ◌∷◌, length, ◌==◌, nat_le, slice_index}
use Rattle.text.specs.Chars.{belongs, every}
use Rattle.text.specs.declared.class.Class.TheVariants.{Permitted}

-- b and c are both /
abbrev pub pair : ℕ → ℕ → Bool
pair b c = b == 47 && c == 47

-- // stands somewhere
abbrev pub doubled : List ℕ → Bool
doubled [] = false
doubled (b ∷ t) = pair b (slice_index t 0) || doubled t

-- the most characters that a reference has
abbrev pub longest : ℕ
longest = 16

-- 1 to 16 permitted characters, with no / at either end and no //
abbrev pub is_reference : List ℕ → Bool
is_reference r =
    nat_le 1 (length r) && (nat_le (length r) longest && (every (belongs Permitted) r
    && (not (slice_index r 0 == 47) && (not (slice_index r (length r - 1) == 47) && not (doubled r)))))

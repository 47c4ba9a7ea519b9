-- The header of a message: who sends it, of which type it is, who receives it.
use Rattle.std.specs.Prelude.{ℕ, suc, Bool, false, cond, not, ◌&&◌, ◌||◌, List, [], ◌∷◌, is_some, Some, None, Err, Option, Result, ◌==◌}
use Rattle.std.specs.Option.{option_map}
use Rattle.std.specs.Str.{bytes_eq}
use Rattle.faults.specs.declared.code.Code.TheVariants.{F01, H04, H05, H06}
use Rattle.faults.specs.declared.code.Fault.{Fault}
use Rattle.frames.specs.Layout.{Parts, Named, in_branch, blocks_of, sender_of, type_of, receiver_of}
use Rattle.keys.specs.Held.{bic_text}
use Rattle.keys.specs.declared.bic.Bic.{Bic}
use Rattle.settings.specs.Places.{bic_at, suspended_at}
use Rattle.settings.specs.declared.house.House.{House}
use Rattle.headers.specs.Tables.{failing, first_of, unless}

-- the address is that of the house that sends
abbrev pub is_sender : Option Bic → Named → Bool
is_sender None n = false
is_sender (Some b) n = bytes_eq (bic_text b) n.bic && in_branch n

-- the first place whose house has the BIC that is written so
abbrev pub place_named : List ℕ → List House → Option ℕ
place_named t [] = None
place_named t (h ∷ hs) = cond (bytes_eq (bic_text h.bic) t) (Some 0) (option_map (λ n. suc n) (place_named t hs))

-- a house may receive if it is not suspended and not the sender
abbrev pub fit : List House → ℕ → Option ℕ → Option ℕ
fit hs sender None = None
fit hs sender (Some place) = cond (suspended_at hs place || place == sender) None (Some place)

-- the place of the house that the address names, if it may receive
unfoldable pub receiver_at : List House → ℕ → Named → Option ℕ
receiver_at hs sender n = cond (in_branch n) (fit hs sender (place_named n.bic hs)) None

abbrev pub or_first : Option ℕ → ℕ
or_first None = 0
or_first (Some n) = n

-- what a header tells: the receiver's place and BIC, and the text that follows
pub record HeaderParts : Type 0 where
  pub receiver : ℕ
  pub bic : List ℕ
  pub text : List ℕ

-- the checks of the sender, the type and the receiver, in this order
abbrev pub header_faults : List ℕ → List House → ℕ → Parts → List (Option Fault)
header_faults digits hs sender p =
    failing H04 0 (not (is_sender (bic_at hs sender) (sender_of p.first)))
    ∷ failing H06 0 (not (bytes_eq (type_of p.second) digits))
    ∷ failing H05 0 (not (is_some (receiver_at hs sender (receiver_of p.second))))
    ∷ []

abbrev pub header_in : List ℕ → List House → ℕ → Parts → Result HeaderParts Fault
header_in digits hs sender p =
    unless (first_of (header_faults digits hs sender p)) (record { receiver = or_first (receiver_at hs sender (receiver_of p.second)); bic = (receiver_of p.second).bic; text = p.text })

-- the header of a content that a house sends as a message of the type; what is not made of blocks is F01
abbrev pub header_of : List ℕ → List House → ℕ → List ℕ → Result HeaderParts Fault
header_of digits hs sender c = elim (blocks_of c) [ None ↦ Err (record { code = F01; field = 0; row = 0 }) | Some p ↦ header_in digits hs sender p ]

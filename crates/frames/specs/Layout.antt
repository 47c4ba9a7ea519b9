-- The blocks of a frame's content, and the parts of each block.
use Rattle.std.specs.Prelude.{◌≡◌, ℕ, ◌+◌, ◌-◌, Bool, true, cond, ◌&&◌, List, ◌++◌, length, take, drop, Some, None, codes, Option, nat_le}
use Rattle.std.specs.Str.{bytes_eq}
use Rattle.text.specs.declared.class.Class.TheVariants.{Permitted}
use Rattle.text.specs.Chars.{belongs, every}
use Rattle.frames.specs.Fixed.{before_first, before_second, before_text, after_text, begins}

-- how many bytes blocks 1 and 2 have
abbrev pub first_size : ℕ
first_size = 20

abbrev pub second_size : ℕ
second_size = 17

-- blocks 1 and 2 and the text
pub record Parts : Type 0 where
  pub first : List ℕ
  pub second : List ℕ
  pub text : List ℕ

-- a content as it is written
abbrev pub content_of : Parts → List ℕ
content_of p = before_first ++ (p.first ++ (before_second ++ (p.second ++ (before_text ++ (p.text ++ after_text)))))

-- where each part begins and ends in a content, and how short a content can be
abbrev pub first_at : ℕ
first_at = length before_first

abbrev pub first_end : ℕ
first_end = first_at + first_size

abbrev pub second_at : ℕ
second_at = first_end + length before_second

abbrev pub second_end : ℕ
second_end = second_at + second_size

abbrev pub text_at : ℕ
text_at = second_end + length before_text

abbrev pub shortest : ℕ
shortest = text_at + length after_text

-- the parts by their places
abbrev pub parts_at : List ℕ → Parts
parts_at c = record { first = take first_size (drop first_at c); second = take second_size (drop second_at c); text = take (length c - shortest) (drop text_at c) }

-- the fixed bytes stand in their places
abbrev pub framed : List ℕ → Bool
framed c = nat_le shortest (length c) && (begins before_first c && (begins before_second (drop first_end c) && (begins before_text (drop second_end c) && begins after_text (drop (length c - length after_text) c))))

-- blocks 1 and 2 are of permitted characters
abbrev pub permitted : Parts → Bool
permitted p = every (belongs Permitted) p.first && every (belongs Permitted) p.second

-- the parts of a content, unless it is not made so
abbrev pub blocks_of : List ℕ → Option Parts
blocks_of c = cond (framed c && permitted (parts_at c)) (Some (parts_at c)) None

-- a content is these parts written together
abbrev pub IsContent : List ℕ → Parts → Type 0
IsContent c p = (c ≡ content_of p) × (length p.first ≡ first_size) × (length p.second ≡ second_size) × (permitted p ≡ true)

-- a content reads as its parts just where it is those parts written together
abbrev pub BlocksLaw : Type 0
BlocksLaw = (c : List ℕ) (p : Parts) → (blocks_of c ≡ Some p → IsContent c p) × (IsContent c p → blocks_of c ≡ Some p)

-- how many bytes a BIC, a branch and a type have
abbrev pub bic_size : ℕ
bic_size = 8

abbrev pub branch_size : ℕ
branch_size = 3

abbrev pub type_size : ℕ
type_size = 3

-- who is addressed, or who sends
pub record Named : Type 0 where
  pub bic : List ℕ
  pub branch : List ℕ

-- the branch of every address
abbrev pub branch_text : List ℕ
branch_text = codes "XXX"

abbrev pub in_branch : Named → Bool
in_branch n = bytes_eq n.branch branch_text

-- a BIC and its branch, by their places in a block
abbrev pub named_at : List ℕ → ℕ → ℕ → Named
named_at b i j = record { bic = take bic_size (drop i b); branch = take branch_size (drop j b) }

-- block 1: three fillers, the sender's BIC, a filler, its branch, five fillers
abbrev pub sender_of : List ℕ → Named
sender_of b = named_at b 3 12

-- block 2: a filler, the type, the receiver's BIC, a filler, its branch, a filler
abbrev pub type_of : List ℕ → List ℕ
type_of b = take type_size (drop 1 b)

abbrev pub receiver_of : List ℕ → Named
receiver_of b = named_at b 4 13

-- the sender is read from block 1 as it is written there, whatever the fillers are
abbrev pub SenderLaw : Type 0
SenderLaw = (n : Named) (f g h : List ℕ) → length f ≡ 3 → length n.bic ≡ bic_size → length g ≡ 1 → length n.branch ≡ branch_size → sender_of (f ++ (n.bic ++ (g ++ (n.branch ++ h)))) ≡ n

-- the type and the receiver are read from block 2 as they are written there
abbrev pub ReceiverLaw : Type 0
ReceiverLaw = (n : Named) (t f g h : List ℕ) → length f ≡ 1 → length t ≡ type_size → length n.bic ≡ bic_size → length g ≡ 1 → length n.branch ≡ branch_size
    → (type_of (f ++ (t ++ (n.bic ++ (g ++ (n.branch ++ h))))) ≡ t) × (receiver_of (f ++ (t ++ (n.bic ++ (g ++ (n.branch ++ h))))) ≡ n)

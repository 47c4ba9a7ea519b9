-- The orders of the keys. Assumes nothing.
use Rattle.std.specs.Prelude.{Bool}
use Rattle.std.specs.Ordering.{nat_cmp, on, then_cmp}
use Rattle.index.specs.Order.{less}
use Rattle.keys.specs.declared.bic.Bic.{Bic}
use Rattle.keys.specs.declared.reference_key.ReferenceKey.{ReferenceKey}

-- BICs: by the text's number
abbrev pub lesser : Bic → Bic → Bool
lesser = less (on (λ b. b.code) nat_cmp)

-- references: by the text's number, and then by the sender's place
abbrev pub earlier : ReferenceKey → ReferenceKey → Bool
earlier = less (then_cmp (on (λ k. k.reference.code) nat_cmp) (on (λ k. k.sender) nat_cmp))

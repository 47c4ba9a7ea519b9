-- Keys with the same number are the same: what the orders of the keys rest on. Assumes nothing.
use Rattle.std.specs.Prelude.{◌≡◌, true}
use Rattle.std.specs.declared.cmp.Ordering.TheVariants.{Equal}
use Rattle.std.specs.Ordering.{nat_cmp, ordering_then}
use Rattle.std.proofs.Common.{ap}
use Rattle.std.proofs.lemmas.Map.Lookups.{exact_unsigned, exact_pairs}
use Rattle.std.proofs.Math.Bool.{Bool-set}
use mathlib.Core.HLevel.{is_prop→PathP}
use Rattle.codes.specs.Bics.{bic_formed}
use Rattle.keys.specs.Texts.{spelled, reference_form}
use Rattle.keys.specs.declared.bic.Bic.{Bic}
use Rattle.keys.specs.declared.reference.Reference.{Reference}
use Rattle.keys.specs.declared.reference_key.ReferenceKey.{ReferenceKey}

pub bic_same : (x y : Bic) → x.code ≡ y.code → x ≡ y
bic_same x y e = λ i. record {
  code = e i;
  formed = is_prop→PathP (λ j. bic_formed (spelled (e j)) ≡ true) (λ j. Bool-set (bic_formed (spelled (e j))) true) x.formed y.formed i;
}

pub reference_same : (x y : Reference) → x.code ≡ y.code → x ≡ y
reference_same x y e = λ i. record {
  code = e i;
  formed = is_prop→PathP (λ j. reference_form (spelled (e j)) ≡ true) (λ j. Bool-set (reference_form (spelled (e j))) true) x.formed y.formed i;
}

pub reference_key_same : (x y : ReferenceKey) → x.sender ≡ y.sender → x.reference.code ≡ y.reference.code → x ≡ y
reference_key_same x y s e = λ i. record { sender = s i; reference = reference_same x.reference y.reference e i }

-- and so are keys that compare as equal
pub bic_alike : (x y : Bic) → nat_cmp x.code y.code ≡ Equal → x ≡ y
bic_alike x y e = bic_same x y (exact_unsigned x.code y.code e)

pub reference_key_alike : (x y : ReferenceKey) → ordering_then (nat_cmp x.reference.code y.reference.code) (nat_cmp x.sender y.sender) ≡ Equal → x ≡ y
reference_key_alike x y e =
    let same = exact_pairs nat_cmp nat_cmp exact_unsigned exact_unsigned (x.reference.code, x.sender) (y.reference.code, y.sender) e in
    reference_key_same x y (ap (λ p. p.1) same) (ap (λ p. p.0) same)

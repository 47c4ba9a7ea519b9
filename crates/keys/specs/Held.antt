-- The texts that keys hold. Assumes nothing.
use Rattle.std.specs.Prelude.{ℕ, Bool, List, drop, ◌==◌}
use Rattle.keys.specs.Texts.{spelled}
use Rattle.keys.specs.declared.bic.Bic.{Bic}
use Rattle.keys.specs.declared.reference.Reference.{Reference}
use Rattle.text.specs.declared.tail.Tail.{Tail}

abbrev pub bic_text : Bic → List ℕ
bic_text b = spelled b.code

abbrev pub reference_text : Reference → List ℕ
reference_text q = spelled q.code

-- two BICs are the same
abbrev pub same_bic : Bic → Bic → Bool
same_bic a b = a.code == b.code

-- the characters of a spelling
abbrev pub written : {N : ℕ} → Tail N → List ℕ
written s = drop s.start s.bytes

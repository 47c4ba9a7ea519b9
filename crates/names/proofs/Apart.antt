-- A name taken apart byte by byte. Assumes nothing.
use Rattle.std.proofs.Common.{◌≡◌, ℕ, suc, ◌+◌, ◌<◌, List, [], ◌∷◌, length, get_or, take, drop, Err, Option, Result, sym, ap, ◌∙◌, arith}
use Rattle.std.proofs.lemmas.List.{drop_more, length-drop}
use Rattle.std.proofs.lemmas.Bool.{cond-true, eq-eqb}
use Rattle.names.specs.declared.kinds.FileKind.{FileKind}
use Rattle.names.specs.declared.kinds.FileName.{FileName}
use Rattle.names.specs.declared.kinds.LastNumbers.{LastNumbers}
use Rattle.names.specs.declared.kinds.NameDenial.{NameDenial}
use Rattle.names.specs.declared.kinds.NameDenial.TheVariants.{WrongLength}
use Rattle.names.specs.Names.{kind_of, numeral, parts_verdict, name_verdict, name_size}

take_on : (xs : List ℕ) (i n : ℕ) → i < length xs → take (suc n) (drop i xs) ≡ get_or xs i 0 ∷ take n (drop (i + 1) xs)
take_on xs i n h = ap (take (suc n)) (drop_more xs i 0 h)

two_at : (xs : List ℕ) (i : ℕ) → i + 1 < length xs → take 2 (drop i xs) ≡ get_or xs i 0 ∷ get_or xs (i + 1) 0 ∷ []
two_at xs i h = take_on xs i 1 (omega arith) ∙ ap (λ l. get_or xs i 0 ∷ l) (take_on xs (i + 1) 0 h)

three_at : (xs : List ℕ) (i : ℕ) → i + 1 + 1 < length xs → take 3 (drop i xs) ≡ get_or xs i 0 ∷ get_or xs (i + 1) 0 ∷ get_or xs (i + 1 + 1) 0 ∷ []
three_at xs i h = take_on xs i 2 (omega arith) ∙ ap (λ l. get_or xs i 0 ∷ l) (two_at xs (i + 1) h)

four_at : (xs : List ℕ) (i : ℕ) → i + 1 + 1 + 1 < length xs → take 4 (drop i xs) ≡ get_or xs i 0 ∷ get_or xs (i + 1) 0 ∷ get_or xs (i + 1 + 1) 0 ∷ get_or xs (i + 1 + 1 + 1) 0 ∷ []
four_at xs i h = take_on xs i 3 (omega arith) ∙ ap (λ l. get_or xs i 0 ∷ l) (three_at xs (i + 1) h)

-- the verdict by the named bytes and the rest is the verdict on the name
pub apart : (name rest : List ℕ) (kind : Option FileKind) (day number : Option ℕ) (r : Result FileName NameDenial) (today : ℕ) (last : LastNumbers) → rest ≡ drop 9 name → length rest ≡ 4
    → kind ≡ kind_of (get_or name 0 0 ∷ get_or name 1 0 ∷ [])
    → day ≡ numeral (get_or name 2 0 ∷ get_or name 3 0 ∷ get_or name 4 0 ∷ [])
    → number ≡ numeral (get_or name 5 0 ∷ get_or name 6 0 ∷ get_or name 7 0 ∷ get_or name 8 0 ∷ [])
    → r ≡ parts_verdict kind day number rest today last → r ≡ name_verdict name today last
apart name rest kind day number r today last e size k d n v =
    let m = ap length e ∙ length-drop 9 name in
    let k' = k ∙ ap kind_of (sym (two_at name 0 (omega arith))) in
    let d' = d ∙ ap numeral (sym (three_at name 2 (omega arith))) in
    let n' = n ∙ ap numeral (sym (four_at name 5 (omega arith))) in
    v ∙ (λ i. parts_verdict (k' i) (d' i) (n' i) (e i) today last) ∙ sym (cond-true _ _ (Err WrongLength) (eq-eqb (length name) name_size (omega arith)))

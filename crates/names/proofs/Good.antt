-- The names that are not denied. Assumes nothing.
use Rattle.std.proofs.Common.{◌≡◌, ℕ, ◌+◌, Bool, true, false, cond, ◌||◌, eqb, ltb, leb, List, ◌++◌, length, take, drop, Some, None, Ok, Err, codes, Option, Result, sym, refl, ap, ◌∙◌, inl, inr, arith}
use Rattle.std.specs.Str.{bytes_eq}
use Rattle.std.proofs.lemmas.Slice.Eq.{bytes_eq-Decides}
use Rattle.std.proofs.lemmas.List.{drop-drop, take_at, drop_at, take-append-drop, length-drop, length-take-le}
use Rattle.std.proofs.lemmas.Bool.{cond-true, cond-false, eqb-true, eq-eqb, ne_eqb, leb-false, lt-leb, le-ltb, ltb-false, or_parts, or_from, or_cases}
use Rattle.names.specs.declared.kinds.FileKind.{FileKind}
use Rattle.names.specs.declared.kinds.FileKind.TheVariants.{Payments, Returns}
use Rattle.names.specs.declared.kinds.FileName.{FileName}
use Rattle.names.specs.declared.kinds.LastNumbers.{LastNumbers}
use Rattle.names.specs.declared.kinds.NameDenial.{NameDenial}
use Rattle.names.specs.declared.kinds.NameDenial.TheVariants.{WrongLength, WrongDay, WrongNumber, UsedNumber, WrongExtension}
use Rattle.names.specs.Names.{name_size, letters, kind_of, known, numeral, last_of, is_day, number_verdict, extension_verdict, parts_verdict, name_verdict, IsGood, NameLaw}

-- a test that has to pass, and one that has to fail
passed : {X : Type 0} (v : Bool) (r : Result X NameDenial) (d : NameDenial) (x : X) → cond v r (Err d) ≡ Ok x → (v ≡ true) × (r ≡ Ok x)
passed true r d x h = (refl, h)
passed false r d x h = cc

failed : {X : Type 0} (v : Bool) (r : Result X NameDenial) (d : NameDenial) (x : X) → cond v (Err d) r ≡ Ok x → (v ≡ false) × (r ≡ Ok x)
failed true r d x h = cc
failed false r d x h = (refl, h)

number_ok : (o : Option ℕ) (last n : ℕ) → number_verdict o last ≡ Ok n → (o ≡ Some n) × (n ≡ last + 1)
number_ok None last n h = cc
number_ok (Some m) last n h =
    let a = failed (eqb m 0 || ltb (last + 1) m) _ WrongNumber n h in
    let b = failed (leb m last) (Ok m) UsedNumber n a.1 in
    let e : m ≡ n = let k = b.1 in cc in
    let p = ltb-false (last + 1) m (or_parts (eqb m 0) _ a.0).1 in
    let q = leb-false m last b.0 in
    (ap Some e, omega arith)

extension_ok : (k : FileKind) (r : Result ℕ NameDenial) (e : List ℕ) (f : FileName) → extension_verdict k r e ≡ Ok f → (r ≡ Ok f.number) × (k ≡ f.kind) × (known e ≡ true)
extension_ok k (Err d) e f h = cc
extension_ok k (Ok n) e f h =
    let a = passed (known e) (Ok (record { kind = k; number = n })) WrongExtension f h in
    let g : record { kind = k; number = n } ≡ f = let b = a.1 in cc in
    (ap (λ (x : FileName). Ok x.number) g, ap (λ (x : FileName). x.kind) g, a.0)

day_ok : (o : Option ℕ) (day : ℕ) → is_day o day ≡ true → o ≡ Some day
day_ok None day h = cc
day_ok (Some d) day h = ap Some (eqb-true d day h)

parts_ok : (k : Option FileKind) (d n : Option ℕ) (e : List ℕ) (day : ℕ) (last : LastNumbers) (f : FileName) → parts_verdict k d n e day last ≡ Ok f → (k ≡ Some f.kind) × (d ≡ Some day) × (n ≡ Some f.number) × (f.number ≡ last_of last f.kind + 1) × (known e ≡ true)
parts_ok None d n e day last f h = cc
parts_ok (Some k) d n e day last f h =
    let a = passed (is_day d day) _ WrongDay f h in
    let b = extension_ok k (number_verdict n (last_of last k)) e f a.1 in
    let c = number_ok n (last_of last k) f.number b.0 in
    (ap Some b.1, day_ok d day a.0, c.0, c.1 ∙ ap (λ x. last_of last x + 1) b.1, b.2)

kind_by : (t : List ℕ) (k : FileKind) (v w : Bool) → bytes_eq t (letters Payments) ≡ v → bytes_eq t (letters Returns) ≡ w → cond v (Some Payments) (cond w (Some Returns) None) ≡ Some k → t ≡ letters k
kind_by t k true w a b h = let e : Payments ≡ k = cc in (bytes_eq-Decides t (letters Payments)).0 a ∙ ap letters e
kind_by t k false true a b h = let e : Returns ≡ k = cc in (bytes_eq-Decides t (letters Returns)).0 b ∙ ap letters e
kind_by t k false false a b h = cc

accepted : (name : List ℕ) (day : ℕ) (last : LastNumbers) (f : FileName) → name_verdict name day last ≡ Ok f → IsGood name day last f
accepted name day last f h =
    let a = passed (eqb (length name) name_size) _ WrongLength f h in
    let l = eqb-true (length name) name_size a.0 in
    let p = parts_ok (kind_of (take 2 name)) _ _ (drop 9 name) day last f a.1 in
    let t = kind_by (take 2 name) f.kind _ _ refl refl p.0 in
    let n2 = length-drop 2 name in
    let n5 = length-drop 5 name in
    let d5 : drop 5 name ≡ take 4 (drop 5 name) ++ drop 9 name = sym (take-append-drop 4 (drop 5 name)) ∙ ap (λ u. take 4 (drop 5 name) ++ u) (drop-drop 4 5 name) in
    let d2 : drop 2 name ≡ take 3 (drop 2 name) ++ drop 5 name = sym (take-append-drop 3 (drop 2 name)) ∙ ap (λ u. take 3 (drop 2 name) ++ u) (drop-drop 3 2 name) in
    record {
      day_digits = take 3 (drop 2 name);
      number_digits = take 4 (drop 5 name);
      extension = drop 9 name;
      whole = sym (take-append-drop 2 name) ∙ (λ i. t i ++ d2 i) ∙ ap (λ u. letters f.kind ++ (take 3 (drop 2 name) ++ u)) d5;
      three = length-take-le 3 (drop 2 name) (omega arith);
      tells_day = p.1;
      four = length-take-le 4 (drop 5 name) (omega arith);
      tells_number = p.2;
      is_next = p.3;
      is_known = p.4;
    }

kind_read : (k : FileKind) (u : List ℕ) → (kind_of (take 2 (letters k ++ u)) ≡ Some k) × (drop 2 (letters k ++ u) ≡ u)
kind_read Payments u = (refl, refl)
kind_read Returns u = (refl, refl)

known_size : (e : List ℕ) → known e ≡ true → length e ≡ 4
known_size e h =
    elim (or_cases (bytes_eq e (codes ".ent")) _ h) [
      | inl a ↦ ap length ((bytes_eq-Decides e (codes ".ent")).0 a)
      | inr a ↦ ap length ((bytes_eq-Decides e (codes ".p7m")).0 a)
    ]

next_taken : (n last : ℕ) → n ≡ last + 1 → number_verdict (Some n) last ≡ Ok n
next_taken n last e =
    cond-false _ _ _ (or_from (eqb n 0) _ (ne_eqb n 0 (λ z. omega arith)) (le-ltb (last + 1) n (omega arith))) ∙ cond-false (leb n last) _ _ (lt-leb n last (omega arith))

parts_taken : (k : FileKind) (n : ℕ) (e : List ℕ) (day : ℕ) (last : LastNumbers) → n ≡ last_of last k + 1 → known e ≡ true → parts_verdict (Some k) (Some day) (Some n) e day last ≡ Ok (record { kind = k; number = n })
parts_taken k n e day last h w =
    cond-true _ _ _ (eq-eqb day day refl) ∙ ap (λ r. extension_verdict k r e) (next_taken n (last_of last k) h) ∙ cond-true (known e) _ _ w

taken : (name : List ℕ) (day : ℕ) (last : LastNumbers) (f : FileName) → IsGood name day last f → name_verdict name day last ≡ Ok f
taken name day last f g =
    let rest = g.number_digits ++ g.extension in
    let w = kind_read f.kind (g.day_digits ++ rest) in
    let k : kind_of (take 2 name) ≡ Some f.kind = ap (λ u. kind_of (take 2 u)) g.whole ∙ w.0 in
    let d2 : drop 2 name ≡ g.day_digits ++ rest = ap (drop 2) g.whole ∙ w.1 in
    let d5 : drop 5 name ≡ rest = sym (drop-drop 3 2 name) ∙ ap (drop 3) d2 ∙ drop_at g.day_digits rest 3 g.three in
    let d9 : drop 9 name ≡ g.extension = sym (drop-drop 4 5 name) ∙ ap (drop 4) d5 ∙ drop_at g.number_digits g.extension 4 g.four in
    let day_is : numeral (take 3 (drop 2 name)) ≡ Some day = ap (λ u. numeral (take 3 u)) d2 ∙ ap numeral (take_at g.day_digits rest 3 g.three) ∙ g.tells_day in
    let number_is : numeral (take 4 (drop 5 name)) ≡ Some f.number = ap (λ u. numeral (take 4 u)) d5 ∙ ap numeral (take_at g.number_digits g.extension 4 g.four) ∙ g.tells_number in
    let size = ap length d9 ∙ known_size g.extension g.is_known in
    let m = length-drop 9 name in
    cond-true _ _ _ (eq-eqb (length name) name_size (omega arith)) ∙ (λ i. parts_verdict (k i) (day_is i) (number_is i) (d9 i) day last) ∙ parts_taken f.kind f.number g.extension day last g.is_next g.is_known

pub name_law : NameLaw
name_law name day last f = (accepted name day last f, taken name day last f)

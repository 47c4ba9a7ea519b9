-- A field cut from a text of formed rows. Assumes nothing.
use Rattle.std.proofs.Common.{is_some, Option, Bor, ◌≡◌, ℕ, zero, suc, ◌-◌, ◌<◌, ◌≤◌, Bool, true, false, cond, List, [], ◌∷◌, ◌++◌, length, take, drop, Some, None, sym, refl, ap, ◌∙◌, arith}
use Rattle.std.specs.Str.{bytes_eq}
use Rattle.std.proofs.lemmas.Slice.Eq.{bytes_eq-Decides}
use Rattle.std.proofs.lemmas.List.{append_assoc, length-append, take-append-le, take_all, drop-append-le}
use Rattle.std.proofs.lemmas.Option.{same_Some, none-some}
use Rattle.std.proofs.lemmas.Bool.{cond-true, cond-false, and_parts, and_from, true≢false, false≢true}
use Rattle.text.specs.Chars.{belongs, every}
use Rattle.text.specs.declared.class.Class.TheVariants.{Permitted}
use Rattle.text.specs.declared.tag.Tag.{Tag}
use Rattle.text.specs.declared.rows.Rows.{Rows}
use Rattle.text.specs.Rows.{crlf, rows_of, put}
use Rattle.text.specs.Tags.{is_tag, tag_in, tag_of, tag_size, tag_text}
use Rattle.text.specs.Texts.{begun, row_formed, rows_formed, opens, good, formed, GivesRow}
use Rattle.text.proofs.Cuts.{rows_cut, tag_first}
use Rattle.text.proofs.Joins.{row_put, rows_put}
use Rattle.text.proofs.TagTexts.{tag_row}
use Rattle.cuts.proofs.Puts.{tag_fits, first_tag}
use Rattle.cuts.specs.Cuts.{untagged, tagged, fields_of, leads, whole}

-- the rows before the next tag and those from it on are all rows
put_split : (rs : List (List ℕ)) → put rs ≡ put (untagged rs) ++ put (tagged rs)
put_split [] = refl
put_split (r ∷ rs) = elim (is_tag r) as (λ v. put (r ∷ rs) ≡ put (cond v [] (r ∷ untagged rs)) ++ put (cond v (r ∷ rs) (tagged rs))) [
  | true ↦ refl
  | false ↦ ap (λ x. (r ++ 13 ∷ 10 ∷ []) ++ x) (put_split rs) ∙ sym (append_assoc (r ++ 13 ∷ 10 ∷ []) (put (untagged rs)) (put (tagged rs)))
]

fields_by : (r : List ℕ) (rs : List (List ℕ)) (v : Bool) → is_tag r ≡ v → fields_of (tagged rs) ≡ fields_of rs
    → fields_of (cond v (r ∷ rs) (tagged rs)) ≡ cond v (record { tag = tag_in r; rows = drop (tag_size (tag_in r)) r ∷ untagged rs } ∷ fields_of rs) (fields_of rs)
fields_by r rs true e ih = cond-true (is_tag r) _ _ e
fields_by r rs false e ih = ih

fields_tagged : (rs : List (List ℕ)) → fields_of (tagged rs) ≡ fields_of rs
fields_tagged [] = refl
fields_tagged (r ∷ rs) = fields_by r rs (is_tag r) refl (fields_tagged rs)

leads_by : (r : List ℕ) (rs : List (List ℕ)) (v : Bool) → is_tag r ≡ v → leads (tagged rs) ≡ true → leads (cond v (r ∷ rs) (tagged rs)) ≡ true
leads_by r rs true e ih = e
leads_by r rs false e ih = ih

leads_tagged : (rs : List (List ℕ)) → leads (tagged rs) ≡ true
leads_tagged [] = refl
leads_tagged (r ∷ rs) = leads_by r rs (is_tag r) refl (leads_tagged rs)

leads_from : (rs : List (List ℕ)) → rows_formed rs ≡ true → opens rs ≡ true → leads rs ≡ true
leads_from [] f o = refl
leads_from (r ∷ rs) f o = first_tag r rs (and_parts (row_formed r) (rows_formed rs) f).0 o

formed_untagged : (rs : List (List ℕ)) → rows_formed rs ≡ true → rows_formed (untagged rs) ≡ true
formed_untagged [] h = refl
formed_untagged (r ∷ rs) h =
    let p = and_parts (row_formed r) (rows_formed rs) h in
    elim (is_tag r) as (λ v. rows_formed (cond v [] (r ∷ untagged rs)) ≡ true) [
      | true ↦ refl
      | false ↦ and_from (row_formed r) (rows_formed (untagged rs)) p.0 (formed_untagged rs p.1)
    ]

every_drop : (p : ℕ → Bool) (n : ℕ) (r : List ℕ) → every p r ≡ true → every p (drop n r) ≡ true
every_drop p zero r h = h
every_drop p (suc n) [] h = refl
every_drop p (suc n) (b ∷ r) h = every_drop p n r (and_parts (p b) (every p r) h).1

-- the rows of formed bytes, put together, are the bytes
pub put_rows : (t : List ℕ) → good t ≡ true → put (rows_of t) ≡ t
put_rows t h = (bytes_eq-Decides (put (rows_of t)) t).0 (and_parts (bytes_eq (put (rows_of t)) t) (rows_formed (rows_of t)) h).0

-- the rows before the cut are the field's
take_front : (x y : List ℕ) → take (length (x ++ y) - length y) (x ++ y) ≡ x
take_front x y =
    let n : length (x ++ y) - length y ≡ length x = simp length-append (omega arith) in
    ap (λ k. take k (x ++ y)) n ∙ take-append-le (length x) x y (omega arith) ∙ take_all (length x) x (omega arith)

drop_ended : (n : ℕ) (r u : List ℕ) → n ≤ length r → drop n ((r ++ 13 ∷ 10 ∷ []) ++ u) ≡ (drop n r ++ 13 ∷ 10 ∷ []) ++ u
drop_ended n r u h =
    let l : n ≤ length (r ++ 13 ∷ 10 ∷ []) = simp length-append (omega arith) in
    drop-append-le n (r ++ 13 ∷ 10 ∷ []) u l ∙ ap (λ x. x ++ u) (drop-append-le n r (13 ∷ 10 ∷ []) h)

-- the text is the rows before the cut and what is after it, and the field's bytes are those rows without the tag
field_bytes : (t row rest after cut bytes : List ℕ) → good t ≡ true → rows_of t ≡ row ∷ rows_of rest → is_tag row ≡ true
    → rows_of after ≡ tagged (rows_of rest) → good after ≡ true → cut ≡ take (length t - length after) t → bytes ≡ drop (tag_size (tag_in row)) cut
    → (t ≡ ((row ++ 13 ∷ 10 ∷ []) ++ put (untagged (rows_of rest))) ++ after)
    × (bytes ≡ (drop (tag_size (tag_in row)) row ++ 13 ∷ 10 ∷ []) ++ put (untagged (rows_of rest)))
field_bytes t row rest after cut bytes g e tag ea ga ec eb =
    let rs = rows_of rest in
    let size = tag_size (tag_in row) in
    let head = row ++ 13 ∷ 10 ∷ [] in
    let own = head ++ put (untagged rs) in
    let x : t ≡ own ++ put (tagged rs) = sym (put_rows t g) ∙ ap put e ∙ ap (λ u. head ++ u) (put_split rs) ∙ sym (append_assoc head (put (untagged rs)) (put (tagged rs))) in
    let y : after ≡ put (tagged rs) = sym (put_rows after ga) ∙ ap put ea in
    let c : cut ≡ own = ec ∙ (λ i. take (length (x i) - length (y i)) (x i)) ∙ take_front own (put (tagged rs)) in
    (x ∙ ap (λ u. own ++ u) (sym y), eb ∙ ap (drop size) c ∙ drop_ended size row (put (untagged rs)) (tag_fits row tag))

field_rows : (t row rest bytes : List ℕ) → good t ≡ true → rows_of t ≡ row ∷ rows_of rest
    → bytes ≡ (drop (tag_size (tag_in row)) row ++ 13 ∷ 10 ∷ []) ++ put (untagged (rows_of rest))
    → rows_of bytes ≡ drop (tag_size (tag_in row)) row ∷ untagged (rows_of rest)
field_rows t row rest bytes g e b =
    let rs = rows_of rest in
    let size = tag_size (tag_in row) in
    let formed_all : rows_formed (row ∷ rs) ≡ true = sym (ap rows_formed e) ∙ (and_parts (bytes_eq (put (rows_of t)) t) (rows_formed (rows_of t)) g).1 in
    let f = and_parts (row_formed row) (rows_formed rs) formed_all in
    let permitted : every (belongs Permitted) row ≡ true = (and_parts (every (belongs Permitted) row) (begun row) f.0).0 in
    ap rows_of b ∙ row_put (drop size row) (put (untagged rs)) (every_drop (belongs Permitted) size row permitted)
    ∙ ap (λ l. drop size row ∷ l) (rows_put (untagged rs) (formed_untagged rs f.1))

regrouped : (a b c d e : List ℕ) → (((a ++ b) ++ c) ++ d) ++ e ≡ a ++ (((b ++ c) ++ d) ++ e)
regrouped a b c d e = simp append_assoc

-- the next field of a text, and the fields of what is left; and the text is the tag as it is written, the field's bytes, and what is after them
pub field_next : (t row rest after cut bytes : List ℕ) (tag : Tag) → whole t ≡ true → rows_of t ≡ row ∷ rows_of rest → tag_of row ≡ Some tag
    → rows_of after ≡ tagged (rows_of rest) → good after ≡ true → cut ≡ take (length t - length after) t → bytes ≡ drop (tag_size tag) cut
    → (fields_of (rows_of t) ≡ record { tag = tag; rows = rows_of bytes } ∷ fields_of (rows_of after)) × (t ≡ tag_text tag ++ (bytes ++ after))
field_next t row rest after cut bytes tag w e et ea ga ec eb =
    let p = and_parts (good t) (leads (rows_of t)) w in
    let yes : is_tag row ≡ true = sym (ap leads e) ∙ p.1 in
    let same : tag_in row ≡ tag = same_Some (tag_in row) tag (sym (cond-true (is_tag row) (Some (tag_in row)) None yes) ∙ et) in
    let size : tag_size tag ≡ tag_size (tag_in row) = ap tag_size (sym same) in
    let q = field_bytes t row rest after cut bytes p.0 e yes ea ga ec (eb ∙ ap (λ n. drop n cut) size) in
    let split = field_rows t row rest bytes p.0 e q.1 in
    let left = drop (tag_size (tag_in row)) row in
    let rows = put (untagged (rows_of rest)) in
    let written : row ≡ tag_text tag ++ left = sym (tag_row row yes) ∙ ap (λ g. tag_text g ++ left) same in (
      ap fields_of e ∙ cond-true (is_tag row) _ _ yes ∙ (λ i. record { tag = same i; rows = sym split i } ∷ (sym (fields_tagged (rows_of rest)) ∙ ap fields_of (sym ea)) i),
      q.0 ∙ ap (λ r. ((r ++ 13 ∷ 10 ∷ []) ++ rows) ++ after) written ∙ regrouped (tag_text tag) left (13 ∷ 10 ∷ []) rows after ∙ ap (λ b. tag_text tag ++ (b ++ after)) (sym q.1),
    )

-- a text whose first row is no tag is not whole
pub no_tag : (t row rest : List ℕ) → whole t ≡ true → rows_of t ≡ row ∷ rows_of rest → tag_of row ≡ None → ⊥
no_tag t row rest w e n =
    let p = and_parts (good t) (leads (rows_of t)) w in
    let yes : is_tag row ≡ true = sym (ap leads e) ∙ p.1 in
    none-some (tag_in row) (sym n ∙ cond-true (is_tag row) (Some (tag_in row)) None yes)

pub whole_after : (rest after : List ℕ) → rows_of after ≡ tagged (rows_of rest) → good after ≡ true → whole after ≡ true
whole_after rest after e g = and_from (good after) (leads (rows_of after)) g (ap leads e ∙ leads_tagged (rows_of rest))

-- a formed text is whole
pub whole_text : (t : List ℕ) → formed t ≡ true → whole t ≡ true
whole_text t h =
    let p = and_parts (good t) (opens (rows_of t)) h in
    let q = and_parts (bytes_eq (put (rows_of t)) t) (rows_formed (rows_of t)) p.0 in
    and_from (good t) (leads (rows_of t)) p.0 (leads_from (rows_of t) q.1 p.1)

-- a text that begins with a tag has no row before it
pub tagged_here : (t : List ℕ) → is_tag t ≡ true → rows_of t ≡ tagged (rows_of t)
tagged_here [] h = refl
tagged_here (b ∷ t) h =
    let e = rows_cut (b ∷ t) (omega arith) in
    e ∙ sym (ap tagged e ∙ cond-true (is_tag (take (crlf (b ∷ t)) (b ∷ t))) _ _ (tag_first (b ∷ t) ∙ h))

-- a row that begins with no tag stands before the next
pub tagged_on : (t after rest : List ℕ) (k : ℕ) → 0 < length t → is_tag t ≡ false → k ≡ crlf t → after ≡ drop k t → rest ≡ drop 2 after → tagged (rows_of rest) ≡ tagged (rows_of t)
tagged_on t after rest k some h e g r =
    let y : rest ≡ drop 2 (drop (crlf t) t) = r ∙ ap (drop 2) (g ∙ ap (λ n. drop n t) e) in
    ap (λ u. tagged (rows_of u)) y ∙ sym (ap tagged (rows_cut t some) ∙ cond-false (is_tag (take (crlf t) t)) _ _ (tag_first t ∙ h))

-- a row passed over that begins with no tag
pub passed : (s t : Rows) (o : Option (Bor (List ℕ))) → GivesRow s o t → is_some o ≡ true → is_tag s.rest.now ≡ false → (tagged (rows_of t.rest.now) ≡ tagged (rows_of s.rest.now)) × (length t.rest.now < length s.rest.now)
passed s t None g some bare = absurd (false≢true some)
passed s t (Some x) g some bare =
    let less = g.shorter in
    (tagged_on s.rest.now (drop (crlf s.rest.now) s.rest.now) t.rest.now (crlf s.rest.now) (omega arith) bare refl refl g.rest, less)

-- no row is left
pub ended : (s t : Rows) (o : Option (Bor (List ℕ))) → GivesRow s o t → is_some o ≡ false → rows_of t.rest.now ≡ tagged (rows_of s.rest.now)
ended s t None g none = g.rows.1 ∙ sym (ap tagged g.rows.0)
ended s t (Some x) g none = absurd (true≢false none)

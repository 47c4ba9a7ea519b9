-- The control message, by which a sender states how many messages follow and what they come to.
use Rattle.std.specs.Prelude.{ℕ, Bool, cond, not, ◌&&◌, List, [], ◌∷◌, is_some, is_ok, Some, None, codes, Option, ◌==◌}
use Rattle.std.specs.Option.{unwrap_or}
use Rattle.std.specs.Str.{bytes_eq}
use Rattle.text.specs.Reference.{is_reference}
use Rattle.text.specs.Rows.{rows_of}
use Rattle.text.specs.Texts.{formed}
use Rattle.text.specs.declared.tag.Tag.{Tag}
use Rattle.values.specs.declared.currency.Currency.{Currency}
use Rattle.keys.specs.declared.bic.Bic.{Bic}
use Rattle.keys.specs.Held.{bic_text}
use Rattle.frames.specs.Layout.{Parts, Named, blocks_of, sender_of, type_of, receiver_of, in_branch}
use Rattle.cuts.specs.Cuts.{fields_of}
use Rattle.cuts.specs.Cuts.{Parts as Field}
use Rattle.fields.specs.Single.{single}
use Rattle.files.specs.declared.control.Control.{Control}
use Rattle.files.specs.declared.control.Expected.{Expected}
use Rattle.files.specs.Stated.{stated_by}

-- the type of a control message
abbrev pub control_type : List ℕ
control_type = codes "198"

-- the address is the BIC's
abbrev pub is_address : Named → Bic → Bool
is_address n b = bytes_eq (bic_text b) n.bic && in_branch n

-- from the sender, of the control message's type, to the clearing
abbrev pub is_addressed : Parts → Expected → Bool
is_addressed p x = is_address (sender_of p.first) x.sender && (bytes_eq (type_of p.second) control_type && is_address (receiver_of p.second) x.clearing)

-- the fields of a text; one that is not formed has none
abbrev pub fields_in : List ℕ → List Field
fields_in t = fields_of (rows_of (cond (formed t) t []))

-- the tag of a reference: 20, with no letter
abbrev pub is_reference_tag : Tag → Bool
is_reference_tag t = t.number == 20 && not (is_some t.letter)

-- the tag of count and total: 90, with the letter C
abbrev pub is_total_tag : Tag → Bool
is_total_tag t = t.number == 90 && unwrap_or t.letter 0 == 67

-- a reference, in one row alone
abbrev pub is_reference_field : Tag → List (List ℕ) → Bool
is_reference_field t rs = is_reference_tag t && is_ok (single is_reference t.number rs)

-- what two fields state, a reference and then count, currency and total
abbrev pub stated_in : List Field → Currency → Option Control
stated_in [] m = None
stated_in (f ∷ []) m = None
stated_in (f ∷ g ∷ []) m = cond (is_reference_field f.tag f.rows && is_total_tag g.tag) (stated_by g.rows m) None
stated_in (f ∷ g ∷ h ∷ fs) m = None

-- what the blocks of a content state, if they are of a control message
abbrev pub control_in : Option Parts → Expected → Option Control
control_in None x = None
control_in (Some p) x = cond (is_addressed p x) (stated_in (fields_in p.text) x.currency) None

-- what the control message of the expected sender to the clearing in the currency states, unless the content is no control message
abbrev pub control_of : List ℕ → Expected → Option Control
control_of c x = control_in (blocks_of c) x

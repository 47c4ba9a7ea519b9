-- A message that passes is payable. Assumes nothing.
use Rattle.std.proofs.Common.{◌≡◌, ℕ, Bool, true, false, cond, List, Ok, Err, Option, Result, refl}
use Rattle.faults.specs.declared.code.Fault.{Fault}
use Rattle.fields.specs.Shapes.{Part}
use Rattle.fields.specs.declared.terms.Terms.{Terms}
use Rattle.headers.specs.Headers.{HeaderParts, header_of}
use Rattle.headers.proofs.Receivers.{header_receiver}
use Rattle.orders.specs.Orders.{fields_in}
use Rattle.settings.specs.Opened.{houses_of}
use Rattle.settings.specs.declared.house.House.{House}
use Rattle.settings.specs.declared.settings.Settings.{Settings}
use Rattle.text.specs.Texts.{formed}
use Rattle.kinds.specs.Sound.{Sound, Payable, PayableIf}
use Rattle.kinds.specs.Terms.{terms_of}
use Rattle.kinds.specs.Verdicts.{Reads, approved_by, text_read, approved, verdict_in, verdict_of}

-- a text that passes was read by its kind
by_form : (b : Bool) (x : Result (List (Option Part)) Fault) (f : Fault) (ps : List (Option Part)) → cond b x (Err f) ≡ Ok ps → x ≡ Ok ps
by_form true x f ps h = h
by_form false x f ps h = absurd (cc)

pub text_payable : (digits : List ℕ) (slot : ℕ) (reads : Reads) (hs : List House) (terms : Terms) (sender : ℕ) (c : List ℕ) (h : HeaderParts) (ps : List (Option Part))
    → Sound slot reads → header_of digits hs sender c ≡ Ok h → text_read reads terms h ≡ Ok ps → Payable hs sender (approved_by slot h.receiver ps)
text_payable digits slot reads hs terms sender c h ps sound e t =
    let r = header_receiver digits hs sender c h e in
    let p = sound terms h.bic (fields_in h.text) ps (by_form (formed h.text) _ _ ps t) in
    record { house = r.house; active = r.active; other = r.other; reference = p.reference; some = p.some; few = p.few }

-- whatever the text comes to
judged_payable : (digits : List ℕ) (slot : ℕ) (reads : Reads) (hs : List House) (terms : Terms) (sender : ℕ) (c : List ℕ) (h : HeaderParts) (y : Result (List (Option Part)) Fault)
    → Sound slot reads → header_of digits hs sender c ≡ Ok h → text_read reads terms h ≡ y → PayableIf hs sender (approved slot h.receiver y)
judged_payable digits slot reads hs terms sender c h (Err f) sound e t = tt
judged_payable digits slot reads hs terms sender c h (Ok ps) sound e t = text_payable digits slot reads hs terms sender c h ps sound e t

-- whatever the header comes to
header_payable : (digits : List ℕ) (slot : ℕ) (reads : Reads) (hs : List House) (terms : Terms) (sender : ℕ) (c : List ℕ) (x : Result HeaderParts Fault)
    → Sound slot reads → header_of digits hs sender c ≡ x → PayableIf hs sender (verdict_in slot reads terms x)
header_payable digits slot reads hs terms sender c (Err f) sound e = tt
header_payable digits slot reads hs terms sender c (Ok h) sound e = judged_payable digits slot reads hs terms sender c h (text_read reads terms h) sound e refl

-- of any reading that keeps what every kind owes, and not only of one that a kind of message brings
pub verdict_payable : (digits : List ℕ) (slot : ℕ) (reads : Reads) (s : Settings) (sender : ℕ) (c : List ℕ) → Sound slot reads
    → PayableIf (houses_of s) sender (verdict_of digits slot reads s sender c)
verdict_payable digits slot reads s sender c sound = header_payable digits slot reads (houses_of s) (terms_of s) sender c (header_of digits (houses_of s) sender c) sound refl

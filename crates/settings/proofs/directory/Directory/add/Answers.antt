use Rattle.std.proofs.Common.{◌≡◌, ℕ, ◌+◌, ◌<◌, ◌≤◌, true, cond, [], ◌∷◌, ◌++◌, map, length, vec_items, vec_len, Err, sym, ap, ◌∙◌, subst, arith}
use Rattle.std.specs.List.{insert}
use Rattle.std.proofs.lemmas.List.{map_push, length-map, length_push}
use Rattle.std.proofs.lemmas.Bool.{and_from, le-leb, lt-ltb}
use Rattle.index.specs.Contents.{entries, room}
use Rattle.index.specs.Order.{Complete, Gap, Sought}
use Rattle.index.proofs.Completes.{complete_added}
use Rattle.keys.specs.Orders.{lesser}
use Rattle.settings.specs.Places.{bic_of}
use Rattle.settings.proofs.directory.Directory.add.Goals as goal

pub invariant_of-self : goal.invariant_of-self
invariant_of-self c =
    let d = c.args.self.now in
    let house = c.args.house in
    let hs = vec_items d.houses in
    let ks = map bic_of hs in
    let ns = entries d.by_bic in
    let p : ℕ = c.unwrap_err-place.result in
    let sought : Sought lesser (map bic_of c.as_slice.result.now) ns house.bic (Err p) = subst (Sought lesser (map bic_of c.as_slice.result.now) ns house.bic) c.unwrap_err-place.ensures c.find.ensures in
    let gap : Gap lesser ks ns house.bic p = subst (λ us. Gap lesser (map bic_of us) ns house.bic p) c.as_slice.ensures.value sought.0 in
    let place : p ≤ length ns = gap.place in
    let counted : length ns ≡ length hs = d.counted in
    let space : length ns < room d.by_bic = omega (arith, c.requires.room) in
    let put : c.insert_at.result ≡ true = c.insert_at.ensures.answer ∙ and_from _ _ (le-leb p (length ns) place) (lt-ltb (length ns) (room d.by_bic) space) in
    let size : vec_len d.houses ≡ length ks = d.houses.ok.0 ∙ sym (length-map hs bic_of) in
    let numbers : entries c.insert_at.new.self ≡ insert ns p (length ks) = c.insert_at.ensures.numbers ∙ ap (λ b. cond b (insert ns p c.len-number.result) ns) put ∙ ap (insert ns p) (c.len-number.ensures ∙ size) in
    let keys : map bic_of (vec_items c.push_reserved.new.self) ≡ ks ++ bic_of house ∷ [] = ap (map bic_of) c.push_reserved.ensures.items ∙ map_push bic_of hs house in
    let added = complete_added lesser ks ns house.bic p ((d.known, d.rising), d.full) gap in
    let complete : Complete lesser (map bic_of (vec_items c.push_reserved.new.self)) (entries c.insert_at.new.self) = subst (λ us. Complete lesser us (entries c.insert_at.new.self)) (sym keys) (subst (Complete lesser (ks ++ bic_of house ∷ [])) (sym numbers) added) in
    record {
      counted = c.insert_at.ensures.size ∙ ap (λ b. length ns + cond b 1 0) put ∙ ap (λ n. n + 1) counted ∙ sym (ap length c.push_reserved.ensures.items ∙ length_push hs house);
      known = complete.0.0;
      rising = complete.0.1;
      full = complete.1;
    }

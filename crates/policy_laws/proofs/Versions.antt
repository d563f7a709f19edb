-- What the highest version that is accepted changes.
use Rattle.std.proofs.Common.{◌≡◌, ℕ, zero, suc, pos, negsuc, ◌≤◌, ◌&&◌, nat_le, leb-true, le-leb, true, false, true≢false, List, [], Option, Some, None, Result, Ok, Err, codes, unwrap_or, refl, sym, ap, ◌∙◌, subst, arith}
use Rattle.std.proofs.lemmas.Bool.{and_parts}
use Rattle.std.proofs.lemmas.Option.{cond_some}
use Rattle.toml.specs.Data.{Data, string, integer, float, boolean, datetime, array, table, get_member, Items, no_items, Members}
use Rattle.of10_model.proofs.Ranges.{between}
use Rattle.of10_model.proofs.Results.{bind_ok, bind_is, ok_is}
use Rattle.flowspace.specs.declared.fault.PolicyFault.{PolicyFault}
use Rattle.flowspace.specs.declared.rules.Rule.{Rule}
use Rattle.flowspace.specs.declared.slices.Slice.{Slice}
use Rattle.flowspace.specs.declared.swaps.Swap.{Swap}
use Rattle.flowspace.specs.Loading.{fault_with_swaps, load_ports_of}
use Rattle.flowspace.specs.Policies.{PolicyView}
use Rattle.policy_text.specs.declared.fault.Place.{Place}
use Rattle.policy_text.specs.declared.fault.ReadFault.{ReadFault}
use Rattle.policy_text.specs.declared.known_keys.Keys.TheVariants as keys
use Rattle.policy_text.specs.declared.values.Numbers.TheVariants.{Between}
use Rattle.policy_text.specs.Documents.{top, parts_in, parts_of, loaded, policy_up_to}
use Rattle.policy_text.specs.Keys.{IsKey, AreKnown}
use Rattle.policy_text.specs.Ports.{swaps_from}
use Rattle.policy_text.specs.Reading.{SectionView, key_place, is_known_key, known_keys, value_formed, demanded, required, optional, number, tables, some_tables}
use Rattle.policy_text.specs.Rules.{rules_from}
use Rattle.policy_text.specs.Slices.{slices_from}
use Rattle.policy_text.proofs.Keys.{optional_there}
use Rattle.policy_text.proofs.LeastUnknown.{all_known}
use Rattle.policy_text.proofs.Steps.{formed_some, number_is, required_holds}

-- ---- version 1

port_unknown : (version : ℕ) → version ≤ 1 → is_known_key (keys.Top version) (codes "port") ≡ false
port_unknown zero le = refl
port_unknown (suc zero) le = refl
port_unknown (suc (suc version)) le = absurd (omega (arith, le))

no_ports : (this : SectionView) (o : Option Items) (slices : List Slice) (swaps : List Swap) → (IsKey this.members (codes "port") → ⊥) → optional tables this (codes "port") ≡ Ok o → swaps_from slices 0 (unwrap_or o no_items) ≡ Ok swaps → swaps ≡ []
no_ports this None slices swaps none e f = sym (ok_is [] swaps f)
no_ports this (Some items) slices swaps none e f = absurd (none (optional_there tables this (codes "port") (Some items) e refl))

parts_without : (this : SectionView) (p : PolicyView) → parts_in 1 this ≡ Ok p → p.swaps ≡ []
unfolding parts_in
parts_without this p e =
    let a = bind_ok (required (number (Between 1 1)) this (codes "version")) _ p e in
    let k = bind_ok (known_keys (keys.Top a.0) this) _ p a.2 in
    let b = bind_ok (required some_tables this (codes "slice")) _ p k.2 in
    let c = bind_ok (optional tables this (codes "rule")) _ p b.2 in
    let h = bind_ok (optional tables this (codes "port")) _ p c.2 in
    let d = bind_ok (slices_from 0 b.0) _ p h.2 in
    let f = bind_ok (rules_from d.0 0 (unwrap_or c.0 no_items)) _ p d.2 in
    let g = bind_ok (swaps_from d.0 0 (unwrap_or h.0 no_items)) _ p f.2 in
    let made : PolicyView = record { slices = d.0; rules = f.0; swaps = g.0 } in
    let one = required_holds (λ n. n ≤ 1) (number (Between 1 1)) (λ x n r. (between 1 1 n (number_is (Between 1 1) x n r)).1) this (codes "version") a.0 a.1 in
    let known : AreKnown (keys.Top a.0) this.members = (all_known (keys.Top a.0) this).0 k.1 in
    let none : IsKey this.members (codes "port") → ⊥ = λ there. true≢false (sym (known (codes "port") there) ∙ port_unknown a.0 one) in
    ap (λ (q : PolicyView). q.swaps) (sym (ok_is made p g.2)) ∙ no_ports this h.0 d.0 g.0 none h.1 g.1

swaps_stay : (slices : List Slice) (rules : List Rule) (swaps : List Swap) (o : Option PolicyFault) (p : PolicyView)
    → loaded (elim o [ None ↦ Ok (record { slices = slices; rules = rules; swaps = swaps }) | Some fault ↦ Err fault ]) ≡ Ok p → p.swaps ≡ swaps
swaps_stay slices rules swaps None p e = ap (λ (q : PolicyView). q.swaps) (sym (ok_is (record { slices = slices; rules = rules; swaps = swaps }) p e))
swaps_stay slices rules swaps (Some fault) p e = absurd cc

pub no_swaps : (document : Option Members) (p : PolicyView) → policy_up_to 1 document ≡ Ok p → p.swaps ≡ []
no_swaps None p e = absurd cc
no_swaps (Some ms) p e =
    let a = bind_ok (parts_of 1 (Some ms)) (λ parts. loaded (load_ports_of parts.slices parts.rules parts.swaps)) p e in
    swaps_stay a.0.slices a.0.rules a.0.swaps (fault_with_swaps a.0.slices a.0.rules a.0.swaps) p a.2 ∙ parts_without (top ms) a.0 a.1

-- ---- a higher version

number_more : (lower upper : ℕ) (d : Data) (n : ℕ) → lower ≤ upper → number (Between 1 lower) d ≡ Some n → number (Between 1 upper) d ≡ Some n
number_more lower upper (integer (pos x)) n le e =
    let w = cond_some (nat_le 1 x && nat_le x lower) x n e in
    let limits = and_parts (nat_le 1 x) (nat_le x lower) w.0 in
    let few : x ≤ upper = let below = leb-true x lower limits.1 in omega (arith, below, le) in
    rw (limits.0, le-leb x upper few) (ap Some w.1)
number_more lower upper (integer (negsuc x)) n le e = absurd cc
number_more lower upper (string x) n le e = absurd cc
number_more lower upper (float x) n le e = absurd cc
number_more lower upper (boolean x) n le e = absurd cc
number_more lower upper (datetime x) n le e = absurd cc
number_more lower upper (array x) n le e = absurd cc
number_more lower upper (table x) n le e = absurd cc

demanded_more : (lower upper : ℕ) (at : Place) (o : Option Data) (n : ℕ) → lower ≤ upper → demanded (number (Between 1 lower)) at o ≡ Ok n → demanded (number (Between 1 upper)) at o ≡ Ok n
demanded_more lower upper at None n le e = absurd cc
demanded_more lower upper at (Some d) n le e = ap (value_formed at) (number_more lower upper d n le (formed_some at (number (Between 1 lower) d) n e))

parts_more : (lower upper : ℕ) (this : SectionView) (p : PolicyView) → lower ≤ upper → parts_in lower this ≡ Ok p → parts_in upper this ≡ Ok p
unfolding parts_in
parts_more lower upper this p le e =
    let a = bind_ok (required (number (Between 1 lower)) this (codes "version")) _ p e in
    let version : required (number (Between 1 upper)) this (codes "version") ≡ Ok a.0 = demanded_more lower upper (key_place this (codes "version")) (get_member (codes "version") this.members) a.0 le a.1 in
    bind_is (required (number (Between 1 upper)) this (codes "version")) _ a.0 _ version a.2

pub higher : (lower upper : ℕ) (document : Option Members) (p : PolicyView) → lower ≤ upper → policy_up_to lower document ≡ Ok p → policy_up_to upper document ≡ Ok p
higher lower upper None p le e = absurd cc
higher lower upper (Some ms) p le e =
    let load : PolicyView → Result PolicyView ReadFault = λ parts. loaded (load_ports_of parts.slices parts.rules parts.swaps) in
    let a = bind_ok (parts_of lower (Some ms)) load p e in
    bind_is (parts_of upper (Some ms)) load a.0 _ (parts_more lower upper (top ms) a.0 le a.1) a.2

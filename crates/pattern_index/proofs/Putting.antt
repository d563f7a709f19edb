-- A pattern that is put into a group, and shapes and keys that are one.
use Rattle.std.proofs.Common.{◌≡◌, ℕ, ◌&&◌, Bool, true, false, cond, if◌then◌else◌, Option, Some, None, refl, sym, ap, ◌∙◌, nat_eq, eqb-true, []}
use Rattle.std.specs.Bool.{beq}
use Rattle.std.specs.Option.{option_eq}
use Rattle.std.specs.declared.cmp.Ordering.{Ordering}
use Rattle.std.specs.Ordering.{nat_cmp, is_eq, ordering_then}
use Rattle.std.specs.Cmp.{unsigned_tied, tied_then}
use Rattle.std.specs.Map.{lookup}
use Rattle.std.specs.BTreeMap.{BTreeMap, get, is_at}
use Rattle.std.proofs.lemmas.Bool.{and_parts, true≢false}
use Rattle.of10_model.specs.declared.pattern.Pattern.{Pattern}
use Rattle.of10_model.specs.Inclusion.{includes_of}
use Rattle.pattern_index.specs.declared.shape.Shape.{Shape}
use Rattle.pattern_index.specs.declared.key.Key.{Key}
use Rattle.pattern_index.specs.declared.key.EqualFirst.{EqualFirst}
use Rattle.pattern_index.specs.Keys.{shape_of, gives, key_of, key_cmp, kept_cmp}
use Rattle.pattern_index.specs.Groups.{lesser_place}
use Rattle.pattern_index.proofs.Keys.{key_tied}

-- ---- keys that are one

then_parts : (a b : Ordering) → is_eq (ordering_then a b) ≡ true → (is_eq a ≡ true) × (is_eq b ≡ true)
then_parts a b e = and_parts (is_eq a) (is_eq b) (tied_then a b ∙ e)

same_number : (x y : ℕ) → is_eq (nat_cmp x y) ≡ true → x ≡ y
same_number x y e = eqb-true x y (sym (unsigned_tied x y) ∙ e)

same_keys : (a b : Key) → is_eq (key_cmp a b) ≡ true → a ≡ b
same_keys a b e =
    let nw_dst = then_parts (nat_cmp a.nw_dst b.nw_dst) _ e in
    let nw_src = then_parts (nat_cmp a.nw_src b.nw_src) _ nw_dst.1 in
    let tp_dst = then_parts (nat_cmp a.tp_dst b.tp_dst) _ nw_src.1 in
    let tp_src = then_parts (nat_cmp a.tp_src b.tp_src) _ tp_dst.1 in
    let in_port = then_parts (nat_cmp a.in_port b.in_port) _ tp_src.1 in
    let dl_vlan = then_parts (nat_cmp a.dl_vlan b.dl_vlan) _ in_port.1 in
    let dl_dst = then_parts (nat_cmp a.dl_dst b.dl_dst) _ dl_vlan.1 in
    let dl_src = then_parts (nat_cmp a.dl_src b.dl_src) _ dl_dst.1 in
    let dl_type = then_parts (nat_cmp a.dl_type b.dl_type) _ dl_src.1 in
    let dl_vlan_pcp = then_parts (nat_cmp a.dl_vlan_pcp b.dl_vlan_pcp) _ dl_type.1 in
    let nw_proto = then_parts (nat_cmp a.nw_proto b.nw_proto) (nat_cmp a.nw_tos b.nw_tos) dl_vlan_pcp.1 in
    rw (
      same_number a.nw_dst b.nw_dst nw_dst.0,
      same_number a.nw_src b.nw_src nw_src.0,
      same_number a.tp_dst b.tp_dst tp_dst.0,
      same_number a.tp_src b.tp_src tp_src.0,
      same_number a.dl_dst b.dl_dst dl_dst.0,
      same_number a.dl_src b.dl_src dl_src.0,
      same_number a.in_port b.in_port in_port.0,
      same_number a.dl_vlan b.dl_vlan dl_vlan.0,
      same_number a.dl_vlan_pcp b.dl_vlan_pcp dl_vlan_pcp.0,
      same_number a.dl_type b.dl_type dl_type.0,
      same_number a.nw_proto b.nw_proto nw_proto.0,
      same_number a.nw_tos b.nw_tos nw_proto.1,
    )
    refl

-- ---- what is found where a pattern was put

-- where the match gives all fields (`given`), it is found at the key (`tied`) exactly where the pattern includes it (`b`)
put_at : (given tied b : Bool) (least place : ℕ) (own there : Option ℕ) → (given && tied) ≡ b → (tied ≡ true → own ≡ there) → Some least ≡ lesser_place (Some place) own
    → (if given then cond tied (Some least) there else None) ≡ (if b then lesser_place (Some place) (if given then there else None) else (if given then there else None))
put_at true true b least place own there agree same e = rw (← agree) (e ∙ ap (lesser_place (Some place)) (same refl))
put_at true false b least place own there agree same e = rw (← agree) refl
put_at false tied b least place own there agree same e = rw (← agree) refl

abbrev keep : Key → EqualFirst Key
keep key = record { value = key }

own_key : (r m : Pattern) (shape : Shape) (key : Key) → shape ≡ shape_of r → key ≡ key_of shape r → (gives shape m && is_at (kept_cmp (keep key)) (keep (key_of shape m))) ≡ includes_of r m
own_key r m shape key is_shape is_key =
    ap (λ k. gives shape m && is_eq (key_cmp k (key_of shape m))) is_key ∙ ap (λ s. gives s m && is_eq (key_cmp (key_of s r) (key_of s m))) is_shape ∙ key_tied r m

-- what a map of keys has for a match
abbrev pub found_in : BTreeMap (EqualFirst Key) ℕ → Shape → Pattern → Option ℕ
found_in places shape m = if gives shape m then get kept_cmp places (keep (key_of shape m)) else None

pub put_in : (r : Pattern) (place least : ℕ) (shape : Shape) (key : Key) (old new : BTreeMap (EqualFirst Key) ℕ) → shape ≡ shape_of r → key ≡ key_of shape r → Some least ≡ lesser_place (Some place) (get kept_cmp old (keep key))
    → ((q : EqualFirst Key) → get kept_cmp new q ≡ cond (is_at (kept_cmp (keep key)) q) (Some least) (get kept_cmp old q))
    → (m : Pattern) → found_in new shape m ≡ (if includes_of r m then lesser_place (Some place) (found_in old shape m) else found_in old shape m)
put_in r place least shape key old new is_shape is_key is_least updated m =
    let asked = keep (key_of shape m) in
    ap (λ o. if gives shape m then o else None) (updated asked)
    ∙ put_at (gives shape m) (is_at (kept_cmp (keep key)) asked) (includes_of r m) least place (get kept_cmp old (keep key)) (get kept_cmp old asked) (own_key r m shape key is_shape is_key)
    (λ tied. ap (λ k. get kept_cmp old (keep k)) (same_keys key (key_of shape m) tied)) is_least

-- nothing is found in an empty map
put_alone : (given tied b : Bool) (place : ℕ) → (given && tied) ≡ b → (if given then cond tied (Some place) None else None) ≡ (if b then Some place else None)
put_alone true true b place agree = rw (← agree) refl
put_alone true false b place agree = rw (← agree) refl
put_alone false tied b place agree = rw (← agree) refl

pub put_first : (r : Pattern) (place : ℕ) (shape : Shape) (key : Key) (old new : BTreeMap (EqualFirst Key) ℕ) → shape ≡ shape_of r → key ≡ key_of shape r → old.entries ≡ []
    → ((q : EqualFirst Key) → get kept_cmp new q ≡ cond (is_at (kept_cmp (keep key)) q) (Some place) (get kept_cmp old q))
    → (m : Pattern) → found_in new shape m ≡ (if includes_of r m then Some place else None)
put_first r place shape key old new is_shape is_key empty updated m =
    let asked = keep (key_of shape m) in
    ap (λ o. if gives shape m then o else None) (updated asked ∙ ap (λ es. cond (is_at (kept_cmp (keep key)) asked) (Some place) (lookup (is_at (kept_cmp asked)) es)) empty)
    ∙ put_alone (gives shape m) (is_at (kept_cmp (keep key)) asked) (includes_of r m) place (own_key r m shape key is_shape is_key)

-- ---- shapes that are one

same_bool : (a b : Bool) → beq a b ≡ true → a ≡ b
same_bool true true e = refl
same_bool true false e = sym e
same_bool false true e = e
same_bool false false e = refl

same_bits : (a b : Option ℕ) → option_eq nat_eq a b ≡ true → a ≡ b
same_bits None None e = refl
same_bits None (Some y) e = absurd (true≢false (sym e))
same_bits (Some x) None e = absurd (true≢false (sym e))
same_bits (Some x) (Some y) e = ap Some (eqb-true x y e)

-- two shapes whose fields are found to be the same are one
pub same_shapes : (a b : Shape) → (beq a.in_port b.in_port && (beq a.dl_src b.dl_src && (beq a.dl_dst b.dl_dst && (beq a.dl_vlan b.dl_vlan && (beq a.dl_vlan_pcp b.dl_vlan_pcp && (beq a.dl_type b.dl_type && (beq a.nw_tos b.nw_tos && (beq a.nw_proto b.nw_proto && (option_eq nat_eq a.nw_src b.nw_src && (option_eq nat_eq a.nw_dst b.nw_dst && (beq a.tp_src b.tp_src && beq a.tp_dst b.tp_dst))))))))))) ≡ true → a ≡ b
same_shapes a b e =
    let past_in_port = and_parts (beq a.in_port b.in_port) (beq a.dl_src b.dl_src && (beq a.dl_dst b.dl_dst && (beq a.dl_vlan b.dl_vlan && (beq a.dl_vlan_pcp b.dl_vlan_pcp && (beq a.dl_type b.dl_type && (beq a.nw_tos b.nw_tos && (beq a.nw_proto b.nw_proto && (option_eq nat_eq a.nw_src b.nw_src && (option_eq nat_eq a.nw_dst b.nw_dst && (beq a.tp_src b.tp_src && beq a.tp_dst b.tp_dst)))))))))) e in
    let past_dl_src = and_parts (beq a.dl_src b.dl_src) (beq a.dl_dst b.dl_dst && (beq a.dl_vlan b.dl_vlan && (beq a.dl_vlan_pcp b.dl_vlan_pcp && (beq a.dl_type b.dl_type && (beq a.nw_tos b.nw_tos && (beq a.nw_proto b.nw_proto && (option_eq nat_eq a.nw_src b.nw_src && (option_eq nat_eq a.nw_dst b.nw_dst && (beq a.tp_src b.tp_src && beq a.tp_dst b.tp_dst))))))))) past_in_port.1 in
    let past_dl_dst = and_parts (beq a.dl_dst b.dl_dst) (beq a.dl_vlan b.dl_vlan && (beq a.dl_vlan_pcp b.dl_vlan_pcp && (beq a.dl_type b.dl_type && (beq a.nw_tos b.nw_tos && (beq a.nw_proto b.nw_proto && (option_eq nat_eq a.nw_src b.nw_src && (option_eq nat_eq a.nw_dst b.nw_dst && (beq a.tp_src b.tp_src && beq a.tp_dst b.tp_dst)))))))) past_dl_src.1 in
    let past_dl_vlan = and_parts (beq a.dl_vlan b.dl_vlan) (beq a.dl_vlan_pcp b.dl_vlan_pcp && (beq a.dl_type b.dl_type && (beq a.nw_tos b.nw_tos && (beq a.nw_proto b.nw_proto && (option_eq nat_eq a.nw_src b.nw_src && (option_eq nat_eq a.nw_dst b.nw_dst && (beq a.tp_src b.tp_src && beq a.tp_dst b.tp_dst))))))) past_dl_dst.1 in
    let past_dl_vlan_pcp = and_parts (beq a.dl_vlan_pcp b.dl_vlan_pcp) (beq a.dl_type b.dl_type && (beq a.nw_tos b.nw_tos && (beq a.nw_proto b.nw_proto && (option_eq nat_eq a.nw_src b.nw_src && (option_eq nat_eq a.nw_dst b.nw_dst && (beq a.tp_src b.tp_src && beq a.tp_dst b.tp_dst)))))) past_dl_vlan.1 in
    let past_dl_type = and_parts (beq a.dl_type b.dl_type) (beq a.nw_tos b.nw_tos && (beq a.nw_proto b.nw_proto && (option_eq nat_eq a.nw_src b.nw_src && (option_eq nat_eq a.nw_dst b.nw_dst && (beq a.tp_src b.tp_src && beq a.tp_dst b.tp_dst))))) past_dl_vlan_pcp.1 in
    let past_nw_tos = and_parts (beq a.nw_tos b.nw_tos) (beq a.nw_proto b.nw_proto && (option_eq nat_eq a.nw_src b.nw_src && (option_eq nat_eq a.nw_dst b.nw_dst && (beq a.tp_src b.tp_src && beq a.tp_dst b.tp_dst)))) past_dl_type.1 in
    let past_nw_proto = and_parts (beq a.nw_proto b.nw_proto) (option_eq nat_eq a.nw_src b.nw_src && (option_eq nat_eq a.nw_dst b.nw_dst && (beq a.tp_src b.tp_src && beq a.tp_dst b.tp_dst))) past_nw_tos.1 in
    let past_nw_src = and_parts (option_eq nat_eq a.nw_src b.nw_src) (option_eq nat_eq a.nw_dst b.nw_dst && (beq a.tp_src b.tp_src && beq a.tp_dst b.tp_dst)) past_nw_proto.1 in
    let past_nw_dst = and_parts (option_eq nat_eq a.nw_dst b.nw_dst) (beq a.tp_src b.tp_src && beq a.tp_dst b.tp_dst) past_nw_src.1 in
    let past_tp_src = and_parts (beq a.tp_src b.tp_src) (beq a.tp_dst b.tp_dst) past_nw_dst.1 in
    rw (same_bool a.in_port b.in_port past_in_port.0, same_bool a.dl_src b.dl_src past_dl_src.0, same_bool a.dl_dst b.dl_dst past_dl_dst.0, same_bool a.dl_vlan b.dl_vlan past_dl_vlan.0, same_bool a.dl_vlan_pcp b.dl_vlan_pcp past_dl_vlan_pcp.0, same_bool a.dl_type b.dl_type past_dl_type.0, same_bool a.nw_tos b.nw_tos past_nw_tos.0, same_bool a.nw_proto b.nw_proto past_nw_proto.0, same_bits a.nw_src b.nw_src past_nw_src.0, same_bits a.nw_dst b.nw_dst past_nw_dst.0, same_bool a.tp_src b.tp_src past_tp_src.0, same_bool a.tp_dst b.tp_dst past_tp_src.1) refl

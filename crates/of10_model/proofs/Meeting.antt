-- The meet of two matches has exactly the headers in both.
use Rattle.std.proofs.Common.{IsTrue, ℕ, ◌≡◌, ◌==◌, ◌↔◌, ◌+◌, ◌-◌, ◌/◌, ◌^◌, ◌≤◌, Bool, true, false, leb, if◌then◌else◌, Option, Some, None, refl, sym, ◌∙◌, arith, eqb-true, eq-eqb}
use Rattle.std.proofs.lemmas.Nat.{shr-shr}
use Rattle.std.proofs.lemmas.Bool.{leb-true, leb-false, true≢false}
use Rattle.of10_model.specs.declared.pattern.Prefix.{Prefix}
use Rattle.of10_model.specs.declared.pattern.Pattern.{Pattern}
use Rattle.of10_model.specs.Header.{Header}
use Rattle.of10_model.specs.Pattern.{Meets, MeetsPrefix, Has, begins_as}
use Rattle.of10_model.specs.Meet.{both, both_prefix, ◌>>=◌, meet_of}

-- ---- one field

-- the constraint holds of exactly the values of which both hold
pub record IsBoth {C : Type 0} (In : C → ℕ → Type 0) (a b c : C) : Type 0 where
  pub left : (x : ℕ) → In c x → In a x
  pub right : (x : ℕ) → In c x → In b x
  pub within : (x : ℕ) → In a x → In b x → In c x

-- what two constraints allow together: nothing is in both, or exactly the given constraint is
unfoldable pub Answers : {C : Type 0} → (C → ℕ → Type 0) → C → C → Option C → Type 0
Answers In a b None = (x : ℕ) → In a x → In b x → ⊥
Answers In a b (Some c) = IsBoth In a b c

answers_if : {C : Type 0} (In : C → ℕ → Type 0) (a b c : C) (t : Bool) → ((x : ℕ) → In a x → In b x → IsTrue t) → (IsTrue t → IsBoth In a b c) → Answers In a b (if t then Some c else None)
unfolding Answers
answers_if In a b c true never both = both refl
answers_if In a b c false never both = λ x p q. true≢false (sym (never x p q))

pub both-Answers : (c d : Option ℕ) → Answers Meets c d (both c d)
unfolding Answers
both-Answers None d = record { left = λ x p. tt; right = λ x p. p; within = λ x p q. q }
both-Answers (Some v) None = record { left = λ x p. p; right = λ x p. tt; within = λ x p q. p }
both-Answers (Some v) (Some w) =
    answers_if Meets (Some v) (Some w) (Some v) (v == w)
    (λ x p q. eq-eqb v w (sym p ∙ q))
    (λ e. record { left = λ x p. p; right = λ x p. p ∙ eqb-true v w e; within = λ x p q. p })

-- addresses with the same leading bits have the same fewer leading bits
pub coarser : (x y i j : ℕ) → i ≤ j → x / 2 ^ i ≡ y / 2 ^ i → x / 2 ^ j ≡ y / 2 ^ j
coarser x y i j h e =
    let more : i + (j - i) ≡ j = omega arith in
    rw (← more, ← shr-shr x i (j - i), ← shr-shr y i (j - i), e) refl

-- a prefix that is no shorter and begins as another holds of fewer addresses
finer : (p q : Prefix) (x : ℕ) → p.bits ≤ q.bits → IsTrue (begins_as p q.value) → MeetsPrefix (Some q) x → MeetsPrefix (Some p) x
finer p q x le same h =
    coarser x q.value (32 - q.bits) (32 - p.bits) (omega arith) h ∙ eqb-true (q.value / 2 ^ (32 - p.bits)) (p.value / 2 ^ (32 - p.bits)) same

begins_alike : (p q : Prefix) (x : ℕ) → p.bits ≤ q.bits → MeetsPrefix (Some p) x → MeetsPrefix (Some q) x → IsTrue (begins_as p q.value)
begins_alike p q x le h k =
    eq-eqb (q.value / 2 ^ (32 - p.bits)) (p.value / 2 ^ (32 - p.bits)) (sym (coarser x q.value (32 - q.bits) (32 - p.bits) (omega arith) k) ∙ h)

by_length : (p q : Prefix) (t : Bool) → leb p.bits q.bits ≡ t
    → Answers MeetsPrefix (Some p) (Some q) (if t then (if begins_as p q.value then Some (Some q) else None) else (if begins_as q p.value then Some (Some p) else None))
by_length p q true e =
    let le = leb-true p.bits q.bits e in
    answers_if MeetsPrefix (Some p) (Some q) (Some q) (begins_as p q.value)
    (λ x h k. begins_alike p q x le h k)
    (λ same. record { left = λ x h. finer p q x le same h; right = λ x h. h; within = λ x h k. k })
by_length p q false e =
    let lt = leb-false p.bits q.bits e in
    let le : q.bits ≤ p.bits = omega arith in
    answers_if MeetsPrefix (Some p) (Some q) (Some p) (begins_as q p.value)
    (λ x h k. begins_alike q p x le k h)
    (λ same. record { left = λ x h. h; right = λ x h. finer q p x le same h; within = λ x h k. h })

pub both_prefix-Answers : (c d : Option Prefix) → Answers MeetsPrefix c d (both_prefix c d)
unfolding Answers
both_prefix-Answers None d = record { left = λ x p. tt; right = λ x p. p; within = λ x p q. q }
both_prefix-Answers (Some p) None = record { left = λ x p. p; right = λ x p. tt; within = λ x p q. p }
both_prefix-Answers (Some p) (Some q) = by_length p q (leb p.bits q.bits) refl

-- ---- twelve fields

-- the match of twelve constraints, if there are that many
abbrev joined : Option (Option ℕ) → Option (Option ℕ) → Option (Option ℕ) → Option (Option ℕ) → Option (Option ℕ) → Option (Option ℕ) → Option (Option ℕ) → Option (Option ℕ) → Option (Option Prefix) → Option (Option Prefix) → Option (Option ℕ) → Option (Option ℕ) → Option Pattern
joined in_port dl_src dl_dst dl_vlan dl_vlan_pcp dl_type nw_tos nw_proto nw_src nw_dst tp_src tp_dst = do
  is_in_port ← in_port
  is_dl_src ← dl_src
  is_dl_dst ← dl_dst
  is_dl_vlan ← dl_vlan
  is_dl_vlan_pcp ← dl_vlan_pcp
  is_dl_type ← dl_type
  is_nw_tos ← nw_tos
  is_nw_proto ← nw_proto
  is_nw_src ← nw_src
  is_nw_dst ← nw_dst
  is_tp_src ← tp_src
  is_tp_dst ← tp_dst
  Some (record { in_port = is_in_port; dl_src = is_dl_src; dl_dst = is_dl_dst; dl_vlan = is_dl_vlan; dl_vlan_pcp = is_dl_vlan_pcp; dl_type = is_dl_type; nw_tos = is_nw_tos; nw_proto = is_nw_proto; nw_src = is_nw_src; nw_dst = is_nw_dst; tp_src = is_tp_src; tp_dst = is_tp_dst })

-- each of twelve constraints is that of a match
pub record Fields (in_port dl_src dl_dst dl_vlan dl_vlan_pcp dl_type nw_tos nw_proto : Option (Option ℕ)) (nw_src nw_dst : Option (Option Prefix)) (tp_src tp_dst : Option (Option ℕ)) (r : Pattern) : Type 0 where
  pub is_in_port : in_port ≡ Some r.in_port
  pub is_dl_src : dl_src ≡ Some r.dl_src
  pub is_dl_dst : dl_dst ≡ Some r.dl_dst
  pub is_dl_vlan : dl_vlan ≡ Some r.dl_vlan
  pub is_dl_vlan_pcp : dl_vlan_pcp ≡ Some r.dl_vlan_pcp
  pub is_dl_type : dl_type ≡ Some r.dl_type
  pub is_nw_tos : nw_tos ≡ Some r.nw_tos
  pub is_nw_proto : nw_proto ≡ Some r.nw_proto
  pub is_nw_src : nw_src ≡ Some r.nw_src
  pub is_nw_dst : nw_dst ≡ Some r.nw_dst
  pub is_tp_src : tp_src ≡ Some r.tp_src
  pub is_tp_dst : tp_dst ≡ Some r.tp_dst

fields_of : (in_port dl_src dl_dst dl_vlan dl_vlan_pcp dl_type nw_tos nw_proto : Option (Option ℕ)) (nw_src nw_dst : Option (Option Prefix)) (tp_src tp_dst : Option (Option ℕ)) (r : Pattern) → joined in_port dl_src dl_dst dl_vlan dl_vlan_pcp dl_type nw_tos nw_proto nw_src nw_dst tp_src tp_dst ≡ Some r → Fields in_port dl_src dl_dst dl_vlan dl_vlan_pcp dl_type nw_tos nw_proto nw_src nw_dst tp_src tp_dst r
fields_of None dl_src dl_dst dl_vlan dl_vlan_pcp dl_type nw_tos nw_proto nw_src nw_dst tp_src tp_dst r e = absurd cc
fields_of (Some in_port) None dl_dst dl_vlan dl_vlan_pcp dl_type nw_tos nw_proto nw_src nw_dst tp_src tp_dst r e = absurd cc
fields_of (Some in_port) (Some dl_src) None dl_vlan dl_vlan_pcp dl_type nw_tos nw_proto nw_src nw_dst tp_src tp_dst r e = absurd cc
fields_of (Some in_port) (Some dl_src) (Some dl_dst) None dl_vlan_pcp dl_type nw_tos nw_proto nw_src nw_dst tp_src tp_dst r e = absurd cc
fields_of (Some in_port) (Some dl_src) (Some dl_dst) (Some dl_vlan) None dl_type nw_tos nw_proto nw_src nw_dst tp_src tp_dst r e = absurd cc
fields_of (Some in_port) (Some dl_src) (Some dl_dst) (Some dl_vlan) (Some dl_vlan_pcp) None nw_tos nw_proto nw_src nw_dst tp_src tp_dst r e = absurd cc
fields_of (Some in_port) (Some dl_src) (Some dl_dst) (Some dl_vlan) (Some dl_vlan_pcp) (Some dl_type) None nw_proto nw_src nw_dst tp_src tp_dst r e = absurd cc
fields_of (Some in_port) (Some dl_src) (Some dl_dst) (Some dl_vlan) (Some dl_vlan_pcp) (Some dl_type) (Some nw_tos) None nw_src nw_dst tp_src tp_dst r e = absurd cc
fields_of (Some in_port) (Some dl_src) (Some dl_dst) (Some dl_vlan) (Some dl_vlan_pcp) (Some dl_type) (Some nw_tos) (Some nw_proto) None nw_dst tp_src tp_dst r e = absurd cc
fields_of (Some in_port) (Some dl_src) (Some dl_dst) (Some dl_vlan) (Some dl_vlan_pcp) (Some dl_type) (Some nw_tos) (Some nw_proto) (Some nw_src) None tp_src tp_dst r e = absurd cc
fields_of (Some in_port) (Some dl_src) (Some dl_dst) (Some dl_vlan) (Some dl_vlan_pcp) (Some dl_type) (Some nw_tos) (Some nw_proto) (Some nw_src) (Some nw_dst) None tp_dst r e = absurd cc
fields_of (Some in_port) (Some dl_src) (Some dl_dst) (Some dl_vlan) (Some dl_vlan_pcp) (Some dl_type) (Some nw_tos) (Some nw_proto) (Some nw_src) (Some nw_dst) (Some tp_src) None r e = absurd cc
fields_of (Some in_port) (Some dl_src) (Some dl_dst) (Some dl_vlan) (Some dl_vlan_pcp) (Some dl_type) (Some nw_tos) (Some nw_proto) (Some nw_src) (Some nw_dst) (Some tp_src) (Some tp_dst) r e = record { is_in_port = cc; is_dl_src = cc; is_dl_dst = cc; is_dl_vlan = cc; is_dl_vlan_pcp = cc; is_dl_type = cc; is_nw_tos = cc; is_nw_proto = cc; is_nw_src = cc; is_nw_dst = cc; is_tp_src = cc; is_tp_dst = cc }

some_given : (in_port dl_src dl_dst dl_vlan dl_vlan_pcp dl_type nw_tos nw_proto : Option (Option ℕ)) (nw_src nw_dst : Option (Option Prefix)) (tp_src tp_dst : Option (Option ℕ))
    → (in_port ≡ None → ⊥) → (dl_src ≡ None → ⊥) → (dl_dst ≡ None → ⊥) → (dl_vlan ≡ None → ⊥) → (dl_vlan_pcp ≡ None → ⊥) → (dl_type ≡ None → ⊥) → (nw_tos ≡ None → ⊥) → (nw_proto ≡ None → ⊥) → (nw_src ≡ None → ⊥) → (nw_dst ≡ None → ⊥) → (tp_src ≡ None → ⊥) → (tp_dst ≡ None → ⊥) → joined in_port dl_src dl_dst dl_vlan dl_vlan_pcp dl_type nw_tos nw_proto nw_src nw_dst tp_src tp_dst ≡ None → ⊥
some_given None dl_src dl_dst dl_vlan dl_vlan_pcp dl_type nw_tos nw_proto nw_src nw_dst tp_src tp_dst n0 n1 n2 n3 n4 n5 n6 n7 n8 n9 n10 n11 e = n0 refl
some_given (Some in_port) None dl_dst dl_vlan dl_vlan_pcp dl_type nw_tos nw_proto nw_src nw_dst tp_src tp_dst n0 n1 n2 n3 n4 n5 n6 n7 n8 n9 n10 n11 e = n1 refl
some_given (Some in_port) (Some dl_src) None dl_vlan dl_vlan_pcp dl_type nw_tos nw_proto nw_src nw_dst tp_src tp_dst n0 n1 n2 n3 n4 n5 n6 n7 n8 n9 n10 n11 e = n2 refl
some_given (Some in_port) (Some dl_src) (Some dl_dst) None dl_vlan_pcp dl_type nw_tos nw_proto nw_src nw_dst tp_src tp_dst n0 n1 n2 n3 n4 n5 n6 n7 n8 n9 n10 n11 e = n3 refl
some_given (Some in_port) (Some dl_src) (Some dl_dst) (Some dl_vlan) None dl_type nw_tos nw_proto nw_src nw_dst tp_src tp_dst n0 n1 n2 n3 n4 n5 n6 n7 n8 n9 n10 n11 e = n4 refl
some_given (Some in_port) (Some dl_src) (Some dl_dst) (Some dl_vlan) (Some dl_vlan_pcp) None nw_tos nw_proto nw_src nw_dst tp_src tp_dst n0 n1 n2 n3 n4 n5 n6 n7 n8 n9 n10 n11 e = n5 refl
some_given (Some in_port) (Some dl_src) (Some dl_dst) (Some dl_vlan) (Some dl_vlan_pcp) (Some dl_type) None nw_proto nw_src nw_dst tp_src tp_dst n0 n1 n2 n3 n4 n5 n6 n7 n8 n9 n10 n11 e = n6 refl
some_given (Some in_port) (Some dl_src) (Some dl_dst) (Some dl_vlan) (Some dl_vlan_pcp) (Some dl_type) (Some nw_tos) None nw_src nw_dst tp_src tp_dst n0 n1 n2 n3 n4 n5 n6 n7 n8 n9 n10 n11 e = n7 refl
some_given (Some in_port) (Some dl_src) (Some dl_dst) (Some dl_vlan) (Some dl_vlan_pcp) (Some dl_type) (Some nw_tos) (Some nw_proto) None nw_dst tp_src tp_dst n0 n1 n2 n3 n4 n5 n6 n7 n8 n9 n10 n11 e = n8 refl
some_given (Some in_port) (Some dl_src) (Some dl_dst) (Some dl_vlan) (Some dl_vlan_pcp) (Some dl_type) (Some nw_tos) (Some nw_proto) (Some nw_src) None tp_src tp_dst n0 n1 n2 n3 n4 n5 n6 n7 n8 n9 n10 n11 e = n9 refl
some_given (Some in_port) (Some dl_src) (Some dl_dst) (Some dl_vlan) (Some dl_vlan_pcp) (Some dl_type) (Some nw_tos) (Some nw_proto) (Some nw_src) (Some nw_dst) None tp_dst n0 n1 n2 n3 n4 n5 n6 n7 n8 n9 n10 n11 e = n10 refl
some_given (Some in_port) (Some dl_src) (Some dl_dst) (Some dl_vlan) (Some dl_vlan_pcp) (Some dl_type) (Some nw_tos) (Some nw_proto) (Some nw_src) (Some nw_dst) (Some tp_src) None n0 n1 n2 n3 n4 n5 n6 n7 n8 n9 n10 n11 e = n11 refl
some_given (Some in_port) (Some dl_src) (Some dl_dst) (Some dl_vlan) (Some dl_vlan_pcp) (Some dl_type) (Some nw_tos) (Some nw_proto) (Some nw_src) (Some nw_dst) (Some tp_src) (Some tp_dst) n0 n1 n2 n3 n4 n5 n6 n7 n8 n9 n10 n11 e = cc

-- the fields of a meet are what the constraints allow together
pub meet_fields : (a b r : Pattern) → meet_of a b ≡ Some r
    → Fields (both a.in_port b.in_port) (both a.dl_src b.dl_src) (both a.dl_dst b.dl_dst) (both a.dl_vlan b.dl_vlan) (both a.dl_vlan_pcp b.dl_vlan_pcp) (both a.dl_type b.dl_type) (both a.nw_tos b.nw_tos) (both a.nw_proto b.nw_proto) (both_prefix a.nw_src b.nw_src) (both_prefix a.nw_dst b.nw_dst) (both a.tp_src b.tp_src) (both a.tp_dst b.tp_dst) r
unfolding meet_of
meet_fields a b r e = fields_of (both a.in_port b.in_port) (both a.dl_src b.dl_src) (both a.dl_dst b.dl_dst) (both a.dl_vlan b.dl_vlan) (both a.dl_vlan_pcp b.dl_vlan_pcp) (both a.dl_type b.dl_type) (both a.nw_tos b.nw_tos) (both a.nw_proto b.nw_proto) (both_prefix a.nw_src b.nw_src) (both_prefix a.nw_dst b.nw_dst) (both a.tp_src b.tp_src) (both a.tp_dst b.tp_dst) r e

answer_at : {C : Type 0} (In : C → ℕ → Type 0) (a b c : C) (o : Option C) → Answers In a b o → o ≡ Some c → IsBoth In a b c
unfolding Answers
answer_at In a b c o h e = rw e at h

never_none : {C : Type 0} (In : C → ℕ → Type 0) (a b : C) (o : Option C) (x : ℕ) → Answers In a b o → In a x → In b x → o ≡ None → ⊥
unfolding Answers
never_none In a b o x h p q e = (rw e at h) x p q

-- what each field of the meet allows
record EachBoth (a b r : Pattern) : Type 0 where
  on_in_port : IsBoth Meets a.in_port b.in_port r.in_port
  on_dl_src : IsBoth Meets a.dl_src b.dl_src r.dl_src
  on_dl_dst : IsBoth Meets a.dl_dst b.dl_dst r.dl_dst
  on_dl_vlan : IsBoth Meets a.dl_vlan b.dl_vlan r.dl_vlan
  on_dl_vlan_pcp : IsBoth Meets a.dl_vlan_pcp b.dl_vlan_pcp r.dl_vlan_pcp
  on_dl_type : IsBoth Meets a.dl_type b.dl_type r.dl_type
  on_nw_tos : IsBoth Meets a.nw_tos b.nw_tos r.nw_tos
  on_nw_proto : IsBoth Meets a.nw_proto b.nw_proto r.nw_proto
  on_nw_src : IsBoth MeetsPrefix a.nw_src b.nw_src r.nw_src
  on_nw_dst : IsBoth MeetsPrefix a.nw_dst b.nw_dst r.nw_dst
  on_tp_src : IsBoth Meets a.tp_src b.tp_src r.tp_src
  on_tp_dst : IsBoth Meets a.tp_dst b.tp_dst r.tp_dst

each_both : (a b r : Pattern) → meet_of a b ≡ Some r → EachBoth a b r
each_both a b r e =
    let fields = meet_fields a b r e in
    record {
      on_in_port = answer_at Meets a.in_port b.in_port r.in_port (both a.in_port b.in_port) (both-Answers a.in_port b.in_port) fields.is_in_port;
      on_dl_src = answer_at Meets a.dl_src b.dl_src r.dl_src (both a.dl_src b.dl_src) (both-Answers a.dl_src b.dl_src) fields.is_dl_src;
      on_dl_dst = answer_at Meets a.dl_dst b.dl_dst r.dl_dst (both a.dl_dst b.dl_dst) (both-Answers a.dl_dst b.dl_dst) fields.is_dl_dst;
      on_dl_vlan = answer_at Meets a.dl_vlan b.dl_vlan r.dl_vlan (both a.dl_vlan b.dl_vlan) (both-Answers a.dl_vlan b.dl_vlan) fields.is_dl_vlan;
      on_dl_vlan_pcp = answer_at Meets a.dl_vlan_pcp b.dl_vlan_pcp r.dl_vlan_pcp (both a.dl_vlan_pcp b.dl_vlan_pcp) (both-Answers a.dl_vlan_pcp b.dl_vlan_pcp) fields.is_dl_vlan_pcp;
      on_dl_type = answer_at Meets a.dl_type b.dl_type r.dl_type (both a.dl_type b.dl_type) (both-Answers a.dl_type b.dl_type) fields.is_dl_type;
      on_nw_tos = answer_at Meets a.nw_tos b.nw_tos r.nw_tos (both a.nw_tos b.nw_tos) (both-Answers a.nw_tos b.nw_tos) fields.is_nw_tos;
      on_nw_proto = answer_at Meets a.nw_proto b.nw_proto r.nw_proto (both a.nw_proto b.nw_proto) (both-Answers a.nw_proto b.nw_proto) fields.is_nw_proto;
      on_nw_src = answer_at MeetsPrefix a.nw_src b.nw_src r.nw_src (both_prefix a.nw_src b.nw_src) (both_prefix-Answers a.nw_src b.nw_src) fields.is_nw_src;
      on_nw_dst = answer_at MeetsPrefix a.nw_dst b.nw_dst r.nw_dst (both_prefix a.nw_dst b.nw_dst) (both_prefix-Answers a.nw_dst b.nw_dst) fields.is_nw_dst;
      on_tp_src = answer_at Meets a.tp_src b.tp_src r.tp_src (both a.tp_src b.tp_src) (both-Answers a.tp_src b.tp_src) fields.is_tp_src;
      on_tp_dst = answer_at Meets a.tp_dst b.tp_dst r.tp_dst (both a.tp_dst b.tp_dst) (both-Answers a.tp_dst b.tp_dst) fields.is_tp_dst;
    }

-- a header is in the meet exactly where it is in both
pub some_meet : (a b r : Pattern) → meet_of a b ≡ Some r → (h : Header) → Has r h ↔ (Has a h × Has b h)
some_meet a b r e h =
    let each = each_both a b r e in (
      λ k. (
        record {
          in_port = each.on_in_port.left h.in_port k.in_port;
          dl_src = each.on_dl_src.left h.dl_src k.dl_src;
          dl_dst = each.on_dl_dst.left h.dl_dst k.dl_dst;
          dl_vlan = each.on_dl_vlan.left h.dl_vlan k.dl_vlan;
          dl_vlan_pcp = each.on_dl_vlan_pcp.left h.dl_vlan_pcp k.dl_vlan_pcp;
          dl_type = each.on_dl_type.left h.dl_type k.dl_type;
          nw_tos = each.on_nw_tos.left h.nw_tos k.nw_tos;
          nw_proto = each.on_nw_proto.left h.nw_proto k.nw_proto;
          nw_src = each.on_nw_src.left h.nw_src k.nw_src;
          nw_dst = each.on_nw_dst.left h.nw_dst k.nw_dst;
          tp_src = each.on_tp_src.left h.tp_src k.tp_src;
          tp_dst = each.on_tp_dst.left h.tp_dst k.tp_dst;
        },
        record {
          in_port = each.on_in_port.right h.in_port k.in_port;
          dl_src = each.on_dl_src.right h.dl_src k.dl_src;
          dl_dst = each.on_dl_dst.right h.dl_dst k.dl_dst;
          dl_vlan = each.on_dl_vlan.right h.dl_vlan k.dl_vlan;
          dl_vlan_pcp = each.on_dl_vlan_pcp.right h.dl_vlan_pcp k.dl_vlan_pcp;
          dl_type = each.on_dl_type.right h.dl_type k.dl_type;
          nw_tos = each.on_nw_tos.right h.nw_tos k.nw_tos;
          nw_proto = each.on_nw_proto.right h.nw_proto k.nw_proto;
          nw_src = each.on_nw_src.right h.nw_src k.nw_src;
          nw_dst = each.on_nw_dst.right h.nw_dst k.nw_dst;
          tp_src = each.on_tp_src.right h.tp_src k.tp_src;
          tp_dst = each.on_tp_dst.right h.tp_dst k.tp_dst;
        },
      ),
      λ k. record {
        in_port = each.on_in_port.within h.in_port k.0.in_port k.1.in_port;
        dl_src = each.on_dl_src.within h.dl_src k.0.dl_src k.1.dl_src;
        dl_dst = each.on_dl_dst.within h.dl_dst k.0.dl_dst k.1.dl_dst;
        dl_vlan = each.on_dl_vlan.within h.dl_vlan k.0.dl_vlan k.1.dl_vlan;
        dl_vlan_pcp = each.on_dl_vlan_pcp.within h.dl_vlan_pcp k.0.dl_vlan_pcp k.1.dl_vlan_pcp;
        dl_type = each.on_dl_type.within h.dl_type k.0.dl_type k.1.dl_type;
        nw_tos = each.on_nw_tos.within h.nw_tos k.0.nw_tos k.1.nw_tos;
        nw_proto = each.on_nw_proto.within h.nw_proto k.0.nw_proto k.1.nw_proto;
        nw_src = each.on_nw_src.within h.nw_src k.0.nw_src k.1.nw_src;
        nw_dst = each.on_nw_dst.within h.nw_dst k.0.nw_dst k.1.nw_dst;
        tp_src = each.on_tp_src.within h.tp_src k.0.tp_src k.1.tp_src;
        tp_dst = each.on_tp_dst.within h.tp_dst k.0.tp_dst k.1.tp_dst;
      },
    )

-- where there is no meet no header is in both
pub none_meet : (a b : Pattern) → meet_of a b ≡ None → (h : Header) → Has a h → Has b h → ⊥
unfolding meet_of
none_meet a b e h p q =
    some_given (both a.in_port b.in_port) (both a.dl_src b.dl_src) (both a.dl_dst b.dl_dst) (both a.dl_vlan b.dl_vlan) (both a.dl_vlan_pcp b.dl_vlan_pcp) (both a.dl_type b.dl_type) (both a.nw_tos b.nw_tos) (both a.nw_proto b.nw_proto) (both_prefix a.nw_src b.nw_src) (both_prefix a.nw_dst b.nw_dst) (both a.tp_src b.tp_src) (both a.tp_dst b.tp_dst)
    (never_none Meets a.in_port b.in_port (both a.in_port b.in_port) h.in_port (both-Answers a.in_port b.in_port) p.in_port q.in_port)
    (never_none Meets a.dl_src b.dl_src (both a.dl_src b.dl_src) h.dl_src (both-Answers a.dl_src b.dl_src) p.dl_src q.dl_src)
    (never_none Meets a.dl_dst b.dl_dst (both a.dl_dst b.dl_dst) h.dl_dst (both-Answers a.dl_dst b.dl_dst) p.dl_dst q.dl_dst)
    (never_none Meets a.dl_vlan b.dl_vlan (both a.dl_vlan b.dl_vlan) h.dl_vlan (both-Answers a.dl_vlan b.dl_vlan) p.dl_vlan q.dl_vlan)
    (never_none Meets a.dl_vlan_pcp b.dl_vlan_pcp (both a.dl_vlan_pcp b.dl_vlan_pcp) h.dl_vlan_pcp (both-Answers a.dl_vlan_pcp b.dl_vlan_pcp) p.dl_vlan_pcp q.dl_vlan_pcp)
    (never_none Meets a.dl_type b.dl_type (both a.dl_type b.dl_type) h.dl_type (both-Answers a.dl_type b.dl_type) p.dl_type q.dl_type)
    (never_none Meets a.nw_tos b.nw_tos (both a.nw_tos b.nw_tos) h.nw_tos (both-Answers a.nw_tos b.nw_tos) p.nw_tos q.nw_tos)
    (never_none Meets a.nw_proto b.nw_proto (both a.nw_proto b.nw_proto) h.nw_proto (both-Answers a.nw_proto b.nw_proto) p.nw_proto q.nw_proto)
    (never_none MeetsPrefix a.nw_src b.nw_src (both_prefix a.nw_src b.nw_src) h.nw_src (both_prefix-Answers a.nw_src b.nw_src) p.nw_src q.nw_src)
    (never_none MeetsPrefix a.nw_dst b.nw_dst (both_prefix a.nw_dst b.nw_dst) h.nw_dst (both_prefix-Answers a.nw_dst b.nw_dst) p.nw_dst q.nw_dst)
    (never_none Meets a.tp_src b.tp_src (both a.tp_src b.tp_src) h.tp_src (both-Answers a.tp_src b.tp_src) p.tp_src q.tp_src)
    (never_none Meets a.tp_dst b.tp_dst (both a.tp_dst b.tp_dst) h.tp_dst (both-Answers a.tp_dst b.tp_dst) p.tp_dst q.tp_dst)
    e

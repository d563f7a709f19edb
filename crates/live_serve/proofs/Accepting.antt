-- Connections that are accepted one after another, and the groups of threads that are started for them.
use Rattle.std.proofs.Common.{◌≡◌, ◌≤◌, ◌<◌, ℕ, zero, suc, ◌+◌, List, ◌++◌, refl, sym, ap, subst, ◌∙◌, append_assoc, append-nil, add-one, arith, inl, inr, ◌⊎◌}
use Rattle.std.specs.Prelude.{Option}
use Rattle.fv_live.specs.Live.{count_more}
use Rattle.fv_live.specs.Roles.{Role, started}
use Rattle.live_serve.specs.Roles.{group, groups, AreFirstRoles, Partly}
use Rattle.fv_base.specs.Told.{Rose}
use Rattle.live_serve.specs.declared.group.StartFault.{StartFault}
use Rattle.live_serve.specs.declared.group.StartFault.TheVariants.{Start, Memory}
use Rattle.live_serve.specs.declared.accept.RunEnd.{RunEnd}
use Rattle.live_serve.specs.Running.{ServeOutside, Opened, SomeGroups, AllServed, EndsBy, IsRunCause}
use Rattle.live_serve.proofs.Starting.{started_none, started_more, partly_more}
use Rattle.live_session.proofs.Linking.{counted_none, counted_more}

-- the next group comes behind the groups before it
groups_next : (n : ℕ) (addresses : List (List ℕ)) → groups (suc n) addresses ≡ groups n addresses ++ group addresses
groups_next zero addresses = append-nil (group addresses)
groups_next (suc n) addresses = ap (λ roles. group addresses ++ roles) (groups_next n addresses) ∙ sym (append_assoc (group addresses) (groups n addresses) (group addresses))

-- fewer groups begin more
groups_first : (m n : ℕ) (addresses : List (List ℕ)) → m ≤ n → AreFirstRoles (groups m addresses) (groups n addresses)
groups_first zero n addresses h = (groups n addresses, refl)
groups_first (suc m) zero addresses h = absurd (omega (arith, h))
groups_first (suc m) (suc n) addresses h =
    let rest = groups_first m n addresses (omega (arith, h)) in
    (rest.0, append_assoc (group addresses) (groups m addresses) rest.0 ∙ ap (λ roles. group addresses ++ roles) rest.1)

-- and the next of them follows
groups_split : (m n : ℕ) (addresses : List (List ℕ)) → m < n → (rest : List Role) × (groups m addresses ++ (group addresses ++ rest) ≡ groups n addresses)
groups_split m zero addresses h = absurd (omega (arith, h))
groups_split zero (suc n) addresses h = (groups n addresses, refl)
groups_split (suc m) (suc n) addresses h =
    let rest = groups_split m n addresses (omega (arith, h)) in
    (rest.0, append_assoc (group addresses) (groups m addresses) (group addresses ++ rest.0) ∙ ap (λ roles. group addresses ++ roles) rest.1)

one-more : (a b c : Option ℕ) (n : ℕ) → b ≡ count_more a n → c ≡ count_more b 1 → c ≡ count_more a (n + 1)
one-more a b c n e k = k ∙ (ap (λ told. count_more told 1) e ∙ counted_more a n)

pub opened_none : (addresses : List (List ℕ)) (a : ServeOutside) → Opened addresses 0 0 a a
opened_none addresses a = record { accepted = counted_none a.accepted; roles = started_none a.roles }

-- a connection was closed at once
pub opened_closed : (addresses : List (List ℕ)) (n m : ℕ) (a b c : ServeOutside) → Opened addresses n m a b → c.accepted ≡ count_more b.accepted 1 → c.roles ≡ b.roles → Opened addresses (n + 1) m a c
opened_closed addresses n m a b c o e k = record { accepted = one-more a.accepted b.accepted c.accepted n o.accepted e; roles = k ∙ o.roles }

-- a session was begun
pub opened_more : (addresses : List (List ℕ)) (n m : ℕ) (a b c : ServeOutside) → Opened addresses n m a b → c.accepted ≡ count_more b.accepted 1 → c.roles ≡ started b.roles (group addresses) → Opened addresses (n + 1) (m + 1) a c
opened_more addresses n m a b c o e k = record {
  accepted = one-more a.accepted b.accepted c.accepted n o.accepted e;
  roles = started_more a.roles b.roles c.roles (groups m addresses) (group addresses) o.roles k ∙ ap (λ roles. started a.roles roles) (sym (groups_next m addresses) ∙ ap (λ i. groups i addresses) (sym (add-one m)));
}

-- no more connections were accepted
pub begun_whole : (addresses : List (List ℕ)) (n m : ℕ) (a b c : ServeOutside) → Opened addresses n m a b → m ≤ n → c.accepted ≡ b.accepted → c.roles ≡ b.roles → SomeGroups addresses a c
begun_whole addresses n m a b c o le e k = record {
  connections = n;
  accepted = e ∙ o.accepted;
  roles = (groups m addresses, groups_first m n addresses le, k ∙ o.roles);
}

-- one more was accepted, and some of its threads were started
pub begun_part : (addresses : List (List ℕ)) (n m : ℕ) (a b c : ServeOutside) → Opened addresses n m a b → m ≤ n → c.accepted ≡ count_more b.accepted 1 → Partly b.roles (group addresses) c.roles → SomeGroups addresses a c
begun_part addresses n m a b c o le e p =
    let rest = groups_split m (n + 1) addresses (omega (arith, le)) in
    record {
      connections = n + 1;
      accepted = one-more a.accepted b.accepted c.accepted n o.accepted e;
      roles = partly_more a.roles b.roles c.roles (groups m addresses) (group addresses) rest.0 (groups (n + 1) addresses) o.roles rest.1 p;
    }

-- all were accepted
pub served : (addresses : List (List ℕ)) (n m count : ℕ) (a b : ServeOutside) → Opened addresses n m a b → m ≤ n → n ≤ count → count ≤ n → (n ≤ m) ⊎ (16 ≤ m) → AllServed addresses count a b
served addresses n m count a b o le few all enough =
    let e : n ≡ count = omega (arith, few, all) in
    record {
      sessions = m;
      opened = subst (λ i. Opened addresses i m a b) e o;
      within = subst (λ i. m ≤ i) e le;
      enough = subst (λ i. (i ≤ m) ⊎ (16 ≤ m)) e enough;
    }

-- why a run ended whose threads weren't all started
pub not_started : (addresses : List (List ℕ)) (count : ℕ) (a b : ServeOutside) (fault : StartFault) (end : RunEnd) → EndsBy fault end → SomeGroups addresses a b → (fault ≡ Start → Rose a.start_faults b.start_faults) → IsRunCause addresses count a b end
not_started addresses count a b Start end e begun rose = subst (λ end. IsRunCause addresses count a b end) (sym e) (begun, rose refl)
not_started addresses count a b Memory end e begun rose = subst (λ end. IsRunCause addresses count a b end) (sym e) begun

-- one more was accepted, and one more session begun
pub enough_more : (n m : ℕ) → (n ≤ m) ⊎ (16 ≤ m) → (n + 1 ≤ m + 1) ⊎ (16 ≤ m + 1)
enough_more n m (inl h) = inl (omega (arith, h))
enough_more n m (inr h) = inr (omega (arith, h))

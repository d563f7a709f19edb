-- Flow-mods one after another.
use Rattle.std.proofs.Common.{◌≡◌, ◌==◌, ◌&&◌, not, Bool, true, false, List, [], ◌∷◌, filter, refl, ap, ◌∙◌}
use Rattle.std.specs.Prelude.{All}
use Rattle.std.proofs.lemmas.Bool.{not-true, and_from, both_ways, eq-eqb}
use Rattle.std.proofs.lemmas.List.Elements.{All-nil, All-cons, All-head, All-tail, All-filter, All-weaker, filter_passes, filter_agree}
use Rattle.of10_model.specs.Header.{Header}
use Rattle.of10_model.specs.Pattern.{Has}
use Rattle.of10_model.specs.Same.{is_same}
use Rattle.of10_model.proofs.Same.{is_same_iff}
use Rattle.of10_flow.specs.declared.flow_mod.FlowMod.{FlowMod}
use Rattle.of10_flow.specs.declared.flow_entry.FlowEntry.{FlowEntry}
use Rattle.of10_flow.specs.Tables.{names_entry, Apply, ApplyAll, Treatment}
use Rattle.of10_flow.specs.TableLaws.{Cleans}
use Rattle.of10_flow.proofs.Keeping.{Treatment-Apply}

-- a header in the match of none is treated as before
pub Treatment-ApplyAll : (ms : List FlowMod) (table : List FlowEntry) (h : Header) → All (λ m. Has m.pattern h → ⊥) ms → Treatment (ApplyAll table ms) h ≡ Treatment table h
Treatment-ApplyAll [] table h outside = refl
Treatment-ApplyAll (m ∷ ms) table h outside =
    Treatment-ApplyAll ms (Apply table m) h (All-tail (λ m. Has m.pattern h → ⊥) m ms outside) ∙ Treatment-Apply table m h (All-head (λ m. Has m.pattern h → ⊥) m ms outside)

-- ---- flow-mods that take away the entry of one match and priority, whatever it outputs to

-- such a one takes away what it names
pub Apply-cleans : (table : List FlowEntry) (m : FlowMod) → Cleans m → Apply table m ≡ filter (λ e. not (names_entry m e)) table
Apply-cleans table m c = rw (c.command, c.out_port) (filter_agree (λ e. not (names_entry m e && true)) (λ e. not (names_entry m e)) (λ e. ap not (and_true (names_entry m e))) table)
  where
    and_true : (x : Bool) → (x && true) ≡ x
    and_true true = refl
    and_true false = refl

-- a fact of every entry stays one
stays_so : (P : FlowEntry → Type 0) (table : List FlowEntry) (m : FlowMod) → Cleans m → All P table → All P (Apply table m)
stays_so P table m c all = rw (Apply-cleans table m c) (All-filter (λ e. not (names_entry m e)) P table all)

stay_so : (P : FlowEntry → Type 0) (ms : List FlowMod) → All Cleans ms → (table : List FlowEntry) → All P table → All P (ApplyAll table ms)
stay_so P [] clean table all = all
stay_so P (m ∷ ms) clean table all = stay_so P ms (All-tail Cleans m ms clean) (Apply table m) (stays_so P table m (All-head Cleans m ms clean) all)

-- an entry has another match or priority than a flow-mod
abbrev pub IsOther : FlowMod → FlowEntry → Type 0
IsOther m e = e.pattern ≡ m.pattern → e.priority ≡ m.priority → ⊥

other : (m : FlowMod) (e : FlowEntry) → not (names_entry m e) ≡ true → IsOther m e
other m e not_named pattern priority =
    both_ways (names_entry m e) (not-true (names_entry m e) not_named)
    (and_from (e.priority == m.priority) (is_same e.pattern m.pattern) (eq-eqb e.priority m.priority priority) ((is_same_iff e.pattern m.pattern).1 pattern))

-- it leaves none of its match and priority
goes : (table : List FlowEntry) (m : FlowMod) → Cleans m → All (IsOther m) (Apply table m)
goes table m c =
    rw (Apply-cleans table m c) (All-weaker (λ e. not (names_entry m e) ≡ true) (IsOther m) (other m) (filter (λ e. not (names_entry m e)) table) (filter_passes (λ e. not (names_entry m e)) table))

-- all of them together leave none of the match and priority of one of them
pub none_left : (ms : List FlowMod) → All Cleans ms → (table : List FlowEntry) → All (λ m. All (IsOther m) (ApplyAll table ms)) ms
none_left [] clean table = All-nil (λ m. All (IsOther m) table)
none_left (m ∷ ms) clean table =
    let rest = All-tail Cleans m ms clean in
    All-cons (λ x. All (IsOther x) (ApplyAll (Apply table m) ms)) m ms
    (stay_so (IsOther m) ms rest (Apply table m) (goes table m (All-head Cleans m ms clean)))
    (none_left ms rest (Apply table m))

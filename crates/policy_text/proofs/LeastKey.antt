-- The first unknown key of a table is its least, since the keys of a table ascend.
use Rattle.std.proofs.Common.{◌≡◌, ℕ, List, [], ◌∷◌, Option, Some, None, String, Global, string_bytes, Less, Greater, nat_cmp, is_lt, refl, ap, ◌∙◌}
use Rattle.std.specs.Cmp.Lexicographic.{slice_cmp}
use Rattle.std.specs.List.{AllByRecursion}
use Rattle.std.specs.Map.{keys_of}
use Rattle.std.specs.Ordering.{ordering_reverse}
use Rattle.std.specs.String.{string_cmp}
use Rattle.std.proofs.lemmas.Bool.{cases_Bool}
use Rattle.std.proofs.lemmas.Cmp.{nat_list_cmp_total}
use Rattle.std.proofs.Common.{inl, inr}
use Rattle.toml.specs.declared.value.Value.{Value}
use Rattle.toml.specs.View.{members_view}
use Rattle.policy_text.specs.declared.known_keys.Keys.{Keys}
use Rattle.policy_text.specs.Reading.{is_known_key, unknown_keys, lesser_text, least_text}

abbrev IsAbove : List ℕ → Option (List ℕ) → Type 0
IsAbove key None = Unit {0}
IsAbove key (Some other) = slice_cmp nat_cmp key other ≡ Less

lesser_above : (key one : List ℕ) (rest : Option (List ℕ)) → slice_cmp nat_cmp key one ≡ Less → IsAbove key rest → IsAbove key (Some (lesser_text one rest))
lesser_above key one None h more = h
lesser_above key one (Some other) h more =
    elim (cases_Bool (is_lt (slice_cmp nat_cmp other one))) [
      | inl less ↦ rw less more
      | inr not_less ↦ rw not_less h
    ]

least_above : (kind : Keys) (key : List ℕ) (es : List (String Global × Value)) → AllByRecursion (λ y. slice_cmp nat_cmp key (string_bytes y) ≡ Less) (keys_of es) → IsAbove key (least_text (unknown_keys kind (members_view es)))
least_above kind key [] h = tt
least_above kind key (e ∷ es) h =
    let more = least_above kind key es h.1 in
    elim (cases_Bool (is_known_key kind (string_bytes e.0))) [
      | inl known ↦ rw known more
      | inr unknown ↦ rw unknown (lesser_above key (string_bytes e.0) (least_text (unknown_keys kind (members_view es))) h.0 more)
    ]

lesser_itself : (key : List ℕ) (rest : Option (List ℕ)) → IsAbove key rest → lesser_text key rest ≡ key
lesser_itself key None h = refl
lesser_itself key (Some other) h =
    let other_way : slice_cmp nat_cmp other key ≡ Greater = nat_list_cmp_total.antisymm other key ∙ ap ordering_reverse h in
    rw other_way refl

pub least_first : (kind : Keys) (key : String Global) (es : List (String Global × Value)) → AllByRecursion (λ y. string_cmp key y ≡ Less) (keys_of es)
    → least_text (string_bytes key ∷ unknown_keys kind (members_view es)) ≡ Some (string_bytes key)
least_first kind key es h = ap Some (lesser_itself (string_bytes key) (least_text (unknown_keys kind (members_view es))) (least_above kind (string_bytes key) es h))

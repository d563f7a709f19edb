-- The order of rules: what `in_order` gives, and that nothing else is in rule order.
use Rattle.std.proofs.Common.{◌≡◌, ℕ, ◌+◌, Bool, List, filter, AllPairs, refl, sym, ◌∙◌, arith, inl, None}
use Rattle.std.specs.List.Sorted.{IsPermutation, IsSortedBy, IsStableBy}
use Rattle.flowspace.specs.declared.rules.Rule.{Rule}
use Rattle.flowspace.specs.declared.order.FiledRule.{FiledRule}
use Rattle.flowspace.specs.Order.{ranked, in_order, HasNoLower, IsRuleOrder}
use Rattle.flowspace.proofs.Ranking.{IsPermutation-ranked, Falls-ranked, Falls-at, Falls-neighbours, filter-ranked, same_from_filters, ranked-filter, goes_before, ranked-from_sort}

abbrev pub rank_of : Rule → ℕ
rank_of rule = rule.priority

abbrev pub filed_rank : FiledRule → ℕ
filed_rank filed = filed.rule.priority

pub IsPermutation-in_order : (rs : List Rule) → IsPermutation rs (in_order rs)
IsPermutation-in_order rs = IsPermutation-ranked rank_of rs

pub HasNoLower-in_order : (rs : List Rule) → AllPairs HasNoLower (in_order rs)
HasNoLower-in_order rs = λ i j d lt long. Falls-at rank_of (in_order rs) (Falls-ranked rank_of rs) i j d lt long

pub IsRuleOrder-in_order : (rs : List Rule) → IsRuleOrder rs (in_order rs)
IsRuleOrder-in_order rs = record {
  same_rules = IsPermutation-in_order rs;
  descending = HasNoLower-in_order rs;
  file_order = λ p. filter-ranked rank_of p rs;
}

-- no other list is in rule order
pub in_order-from_IsRuleOrder : (rs ordered : List Rule) → IsRuleOrder rs ordered → ordered ≡ in_order rs
in_order-from_IsRuleOrder rs ordered h =
    same_from_filters rank_of ordered (in_order rs) (Falls-neighbours rank_of ordered (λ k d lt. h.descending k (k + 1) d (omega arith) lt))
    (Falls-ranked rank_of rs)
    (λ p. h.file_order p ∙ sym (filter-ranked rank_of p rs))

-- the rules of a part stand in the order that they have among all
pub in_order-filter : (p : Rule → Bool) (rs : List Rule) → in_order (filter p rs) ≡ filter p (in_order rs)
in_order-filter p rs = ranked-filter rank_of p rs

-- ---- what a sort gives

-- some rule of a priority
abbrev example : ℕ → Rule
example p = record {
  switch = None;
  priority = p;
  pattern = record { in_port = None; dl_src = None; dl_dst = None; dl_vlan = None; dl_vlan_pcp = None; dl_type = None; nw_tos = None; nw_proto = None; nw_src = None; nw_dst = None; tp_src = None; tp_dst = None };
  writer = None;
  readers = 0;
}

-- what a stable sort at descending priority makes
pub in_order-from_sort : (rs sorted : List Rule) → IsSortedBy (goes_before rank_of) sorted → IsStableBy (goes_before rank_of) rs sorted → sorted ≡ in_order rs
in_order-from_sort rs sorted up stable = ranked-from_sort rank_of example (λ p. inl refl) rs sorted up stable

pub ranked-from_filed_sort : (rs sorted : List FiledRule) → IsSortedBy (goes_before filed_rank) sorted → IsStableBy (goes_before filed_rank) rs sorted → sorted ≡ ranked filed_rank rs
ranked-from_filed_sort rs sorted up stable = ranked-from_sort filed_rank (λ p. record { place = 0; rule = example p }) (λ p. inl refl) rs sorted up stable

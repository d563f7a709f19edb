-- The text that is printed for a policy is read as the same policy.
use Rattle.std.proofs.Common.{◌≡◌, ℕ, pos, ◌<◌, ◌≤◌, ◌^◌, Bool, true, false, ◌==◌, inl, inr, IsUtf8, List, [], ◌∷◌, ◌++◌, length, map, Option, Some, None, IfSome, option_map, option_and_then, unwrap_or, Ok, codes, le-leb, refl, sym, ap, ◌∙◌, append_assoc, arith}
use Rattle.std.specs.List.{AllByRecursion}
use Rattle.std.proofs.lemmas.Bool.{cases_Bool}
use Rattle.std.proofs.lemmas.Fmt.{decimal_digit}
use Rattle.std.proofs.lemmas.List.Elements.{All-from_recursion, recursion_from_All}
use Rattle.std.proofs.lemmas.Str.{is_utf8-from_IsUtf8}
use Rattle.toml_writer.specs.Text.{key_text}
use Rattle.toml.specs.Data.{string, integer, Items, no_items, item, items_depth, items_have_valid_dates}
use Rattle.toml.specs.View.{items_of}
use Rattle.toml.specs.Parse.{parse_document}
use Rattle.toml.specs.Text.{IsItemsText, breaks_lines, are_tables}
use Rattle.of10_model.specs.Normal.{IsBelow, IsService, IsNormal}
use Rattle.flowspace.specs.declared.rules.Rule.{Rule}
use Rattle.flowspace.specs.declared.slices.Slice.{Slice}
use Rattle.flowspace.specs.declared.swaps.Swap.{Swap}
use Rattle.flowspace.specs.Policies.{PolicyView, IsPolicy}
use Rattle.flowspace.specs.Rules.{IsPlainRule}
use Rattle.flowspace.specs.Slices.{IsPlainSlice}
use Rattle.flowspace.specs.Swaps.{IsPlainSwap, AreSwaps}
use Rattle.flowspace.proofs.FirstSwaps.{load_ports_of-iff}
use Rattle.policy_text.specs.Reading.{SectionView, required, optional, known_keys, number, tables, some_tables}
use Rattle.policy_text.specs.declared.values.Numbers.TheVariants.{Between}
use Rattle.policy_text.specs.Slices.{slices_from}
use Rattle.policy_text.specs.Rules.{rules_from}
use Rattle.policy_text.specs.Ports.{swaps_from}
use Rattle.policy_text.specs.declared.known_keys.Keys.TheVariants as keys
use Rattle.policy_text.specs.Documents.{top, parts_in, document_of, parts_of, loaded, policy_up_to}
use Rattle.address_text.specs.Texts.{hex_text, hardware_text, prefix_text}
use Rattle.policy_text.specs.Printing.{Entry, unless_default, slice_entries, number_value, text_value, slice_name, names_in, names_array, entries_beside, link_entries, network_entries, swap_entries, items_text, entry_text, entries_text, slice_text, rule_text, slices_text, rules_text, swap_text, swaps_text, needed_version, version_text, text_of, IsRuleInRange, IsSwapInRange}
use Rattle.of10_model.proofs.Results.{bind_is}
use Rattle.policy_text.proofs.PrintedNodes.{table_of, EachApart}
use Rattle.policy_text.proofs.PrintedLines.{IsWritten, AreWritten, EachWritten, tables_text, version_line, document_text, number_written, said, parsed}
use Rattle.policy_text.proofs.PrintedTables.{rule_entries, AreNamed, slices_back, IsPrintable, rules_back, IsPrintableSwap, swaps_back}

-- ---- the values are written

text_written : (s : List ℕ) → IsWritten (string s)
text_written s = (refl, omega arith, refl)

numbers_written : (o : Option ℕ) → IfSome o (λ n. n < 2 ^ 63) → IfSome (number_value o) IsWritten
numbers_written None h = tt
numbers_written (Some n) h = number_written n h

texts_written : (o : Option (List ℕ)) → IfSome (text_value o) IsWritten
texts_written None = tt
texts_written (Some s) = text_written s

unless_written : (default n : ℕ) → n < 2 ^ 63 → IfSome (unless_default default n) IsWritten
unless_written default n lt =
    elim (cases_Bool (n == default)) [
      | inl same ↦ rw same tt
      | inr other ↦ rw other (number_written n lt)
    ]

one_line : (items : Items) → breaks_lines false items ≡ false
one_line no_items = refl
one_line (item d no_items) = refl
one_line (item d (item e rest)) = refl

items_written : (is_first : Bool) (texts : List (List ℕ)) → IsItemsText false false is_first (items_of (map string texts)) (items_text is_first (items_of (map string texts)))
items_written is_first [] = refl
items_written is_first (s ∷ texts) = (_, items_text false (items_of (map string texts)), refl, refl, items_written false texts)

shallow : (texts : List (List ℕ)) → items_depth (items_of (map string texts)) ≡ 0
shallow [] = refl
shallow (s ∷ texts) = rw (shallow texts) refl

dateless : (texts : List (List ℕ)) → items_have_valid_dates (items_of (map string texts)) ≡ true
dateless [] = refl
dateless (s ∷ texts) = dateless texts

names_written : (texts : List (List ℕ)) → IfSome (names_array texts) IsWritten
names_written [] = tt
names_written (s ∷ texts) =
    let items = items_of (map string (s ∷ texts)) in
    let deep = shallow (s ∷ texts) in
    ((items_text true items, refl, rw (one_line items) (items_written true (s ∷ texts))), omega (arith, deep), dateless (s ∷ texts))

below_written : (limit : ℕ) (o : Option ℕ) → limit ≤ 2 ^ 16 → IsBelow limit o → IfSome (number_value o) IsWritten
below_written limit None le h = tt
below_written limit (Some n) le h = number_written n (omega (arith, h, le))

service_written : (o : Option ℕ) → IsService o → IfSome (number_value o) IsWritten
service_written None h = tt
service_written (Some n) h = number_written n (omega (arith, h.0))

slice_written : (s : Slice) → IsPlainSlice s → AreWritten (slice_entries s)
unfolding key_text
slice_written s plain = (
  refl,
  text_written s.name,
  (
    refl,
    text_written s.controller,
    (
      refl,
      unless_written 1000 s.rate (omega (arith, plain.rate_limit)),
      (
        refl,
        unless_written 1000 s.burst (omega (arith, plain.burst_limit)),
        (refl, unless_written 1024 s.quota (omega (arith, plain.quota_limit)), tt),
      ),
    ),
  ),
)

rule_written : (slices : List Slice) (r : Rule) → IsRuleInRange r → AreWritten (rule_entries slices r)
unfolding key_text
rule_written slices r held =
    let m = r.pattern in
    let range = held.normal.0 in (
      refl,
      texts_written (option_map (hex_text 16) r.switch),
      (
        refl,
        number_written r.priority (omega (arith, held.priority)),
        (
          refl,
          texts_written (option_and_then (slice_name slices) r.writer),
          (
            refl,
            names_written (names_in r.readers slices),
            (
              refl,
              below_written (2 ^ 16) m.in_port (omega arith) range.in_port,
              (
                refl,
                texts_written (option_map hardware_text m.dl_src),
                (
                  refl,
                  texts_written (option_map hardware_text m.dl_dst),
                  (
                    refl,
                    below_written (2 ^ 16) m.dl_vlan (omega arith) range.dl_vlan,
                    (
                      refl,
                      below_written 8 m.dl_vlan_pcp (omega arith) range.dl_vlan_pcp,
                      (
                        refl,
                        below_written (2 ^ 16) m.dl_type (omega arith) range.dl_type,
                        (
                          refl,
                          service_written m.nw_tos range.nw_tos,
                          (
                            refl,
                            below_written 256 m.nw_proto (omega arith) range.nw_proto,
                            (
                              refl,
                              texts_written (option_map prefix_text m.nw_src),
                              (
                                refl,
                                texts_written (option_map prefix_text m.nw_dst),
                                (
                                  refl,
                                  below_written (2 ^ 16) m.tp_src (omega arith) range.tp_src,
                                  (refl, below_written (2 ^ 16) m.tp_dst (omega arith) range.tp_dst, tt),
                                ),
                              ),
                            ),
                          ),
                        ),
                      ),
                    ),
                  ),
                ),
              ),
            ),
          ),
        ),
      ),
    )

swap_written : (slices : List Slice) (w : Swap) → IsPlainSwap w → AreWritten (swap_entries slices w)
unfolding key_text
swap_written slices w plain = (
  refl,
  texts_written (slice_name slices w.slice),
  (
    refl,
    texts_written (option_map (hex_text 16) w.switch),
    (
      refl,
      number_written w.shown (omega (arith, plain.shown_limit)),
      (refl, number_written w.physical (omega (arith, plain.physical_limit)), tt),
    ),
  ),
)

slices_written : (slices : List Slice) → AllByRecursion IsPlainSlice slices → EachWritten (map slice_entries slices)
slices_written [] plain = tt
slices_written (s ∷ rest) plain = (slice_written s plain.0, slices_written rest plain.1)

rules_written : (slices : List Slice) (rules : List Rule) → AllByRecursion IsRuleInRange rules → EachWritten (map (rule_entries slices) rules)
rules_written slices [] held = tt
rules_written slices (r ∷ rest) held = (rule_written slices r held.0, rules_written slices rest held.1)

swaps_written : (slices : List Slice) (swaps : List Swap) → AllByRecursion IsPlainSwap swaps → EachWritten (map (swap_entries slices) swaps)
swaps_written slices [] plain = tt
swaps_written slices (w ∷ rest) plain = (swap_written slices w plain.0, swaps_written slices rest plain.1)

slices_apart : (slices : List Slice) → EachApart (map slice_entries slices)
slices_apart [] = tt
slices_apart (s ∷ rest) = (refl, slices_apart rest)

rules_apart : (slices : List Slice) (rules : List Rule) → EachApart (map (rule_entries slices) rules)
rules_apart slices [] = tt
rules_apart slices (r ∷ rest) = (refl, rules_apart slices rest)

swaps_apart : (slices : List Slice) (swaps : List Swap) → EachApart (map (swap_entries slices) swaps)
swaps_apart slices [] = tt
swaps_apart slices (w ∷ rest) = (refl, swaps_apart slices rest)

-- ---- the text

entries_text-append : (a b : List Entry) → entries_text (a ++ b) ≡ entries_text a ++ entries_text b
entries_text-append [] b = refl
entries_text-append (entry ∷ a) b = ap (λ t. entry_text entry ++ t) (entries_text-append a b) ∙ sym (append_assoc (entry_text entry) (entries_text a) (entries_text b))

slices_tables : (slices : List Slice) → slices_text slices ≡ tables_text (codes "slice") (map slice_entries slices)
unfolding slice_text
slices_tables [] = refl
slices_tables (s ∷ rest) =
    append_assoc (codes "\n[[slice]]\n") (entries_text (slice_entries s)) (slices_text rest)
    ∙ ap (λ t. codes "\n[[slice]]\n" ++ (entries_text (slice_entries s) ++ t)) (slices_tables rest)

rule_table : (slices : List Slice) (r : Rule) → rule_text slices r ≡ codes "\n[[rule]]\n" ++ entries_text (rule_entries slices r)
unfolding rule_text
rule_table slices r =
    let own = entries_beside slices r in
    let link = link_entries r.pattern in
    let network = network_entries r.pattern in
    ap (λ t. codes "\n[[rule]]\n" ++ t) (sym (entries_text-append own (link ++ network) ∙ ap (λ t. entries_text own ++ t) (entries_text-append link network)))

rules_tables : (slices : List Slice) (rules : List Rule) → rules_text slices rules ≡ tables_text (codes "rule") (map (rule_entries slices) rules)
rules_tables slices [] = refl
rules_tables slices (r ∷ rest) =
    ap (λ t. t ++ rules_text slices rest) (rule_table slices r)
    ∙ append_assoc (codes "\n[[rule]]\n") (entries_text (rule_entries slices r)) (rules_text slices rest)
    ∙ ap (λ t. codes "\n[[rule]]\n" ++ (entries_text (rule_entries slices r) ++ t)) (rules_tables slices rest)

swaps_tables : (slices : List Slice) (swaps : List Swap) → swaps_text slices swaps ≡ tables_text (codes "port") (map (swap_entries slices) swaps)
unfolding swap_text
swaps_tables slices [] = refl
swaps_tables slices (w ∷ rest) =
    append_assoc (codes "\n[[port]]\n") (entries_text (swap_entries slices w)) (swaps_text slices rest)
    ∙ ap (λ t. codes "\n[[port]]\n" ++ (entries_text (swap_entries slices w) ++ t)) (swaps_tables slices rest)

version_is : (swaps : List Swap) → version_text swaps ≡ version_line (needed_version swaps)
version_is [] = ap (λ n. codes "version = " ++ (n ++ codes "\n")) (sym (decimal_digit 1 (omega arith)))
version_is (w ∷ rest) = ap (λ n. codes "version = " ++ (n ++ codes "\n")) (sym (decimal_digit 2 (omega arith)))

policy_text : PolicyView → List ℕ
policy_text p = document_text (needed_version p.swaps) (map slice_entries p.slices) (map (rule_entries p.slices) p.rules) (map (swap_entries p.slices) p.swaps)

text_is : (p : PolicyView) → text_of p ≡ policy_text p
unfolding text_of policy_text
text_is p = rw (version_is p.swaps, slices_tables p.slices, rules_tables p.slices p.rules, swaps_tables p.slices p.swaps) refl

-- ---- the parts

tables_are : (each : List (List Entry)) → are_tables (items_of (map table_of each)) ≡ true
tables_are [] = refl
tables_are (entries ∷ rest) = tables_are rest

-- the items of an array that is there where it has tables
abbrev items_under : List (List Entry) → Option Items
items_under [] = None
items_under (entries ∷ rest) = Some (items_of (map table_of (entries ∷ rest)))

-- the table of the whole text that is printed
abbrev whole : ℕ → List (List Entry) → List (List Entry) → List (List Entry) → SectionView
whole version slices rules ports = top (said version (map table_of slices) (map table_of rules) (map table_of ports))

version_there : (highest version : ℕ) (slices rules ports : List (List Entry)) → 1 ≤ version → version ≤ highest → required (number (Between 1 highest)) (whole version slices rules ports) (codes "version") ≡ Ok version
version_there highest version slices [] [] some le = rw (le-leb 1 version some, le-leb version highest le) refl
version_there highest version slices [] (port ∷ ports) some le = rw (le-leb 1 version some, le-leb version highest le) refl
version_there highest version slices (rule ∷ rules) [] some le = rw (le-leb 1 version some, le-leb version highest le) refl
version_there highest version slices (rule ∷ rules) (port ∷ ports) some le = rw (le-leb 1 version some, le-leb version highest le) refl

-- where there are port tables the version has the key
known_there : (of : List Slice) (slices rules : List (List Entry)) (swaps : List Swap) → known_keys (keys.Top (needed_version swaps)) (whole (needed_version swaps) slices rules (map (swap_entries of) swaps)) ≡ Ok tt
known_there of slices [] [] = refl
known_there of slices [] (w ∷ swaps) = refl
known_there of slices (rule ∷ rules) [] = refl
known_there of slices (rule ∷ rules) (w ∷ swaps) = refl

slices_there : (version : ℕ) (slice : List Entry) (slices rules ports : List (List Entry)) → required some_tables (whole version (slice ∷ slices) rules ports) (codes "slice") ≡ Ok (items_of (map table_of (slice ∷ slices)))
slices_there version slice slices [] [] = rw (tables_are slices) refl
slices_there version slice slices [] (port ∷ ports) = rw (tables_are slices) refl
slices_there version slice slices (rule ∷ rules) [] = rw (tables_are slices) refl
slices_there version slice slices (rule ∷ rules) (port ∷ ports) = rw (tables_are slices) refl

rules_there : (version : ℕ) (slices rules ports : List (List Entry)) → optional tables (whole version slices rules ports) (codes "rule") ≡ Ok (items_under rules)
rules_there version slices [] [] = refl
rules_there version slices [] (port ∷ ports) = refl
rules_there version slices (rule ∷ rules) [] = rw (tables_are rules) refl
rules_there version slices (rule ∷ rules) (port ∷ ports) = rw (tables_are rules) refl

ports_there : (version : ℕ) (slices rules ports : List (List Entry)) → optional tables (whole version slices rules ports) (codes "port") ≡ Ok (items_under ports)
ports_there version slices [] [] = refl
ports_there version slices [] (port ∷ ports) = rw (tables_are ports) refl
ports_there version slices (rule ∷ rules) [] = refl
ports_there version slices (rule ∷ rules) (port ∷ ports) = rw (tables_are ports) refl

rules_read : (slices : List Slice) (rules : List Rule) → AreNamed slices → AllByRecursion (IsPrintable slices) rules → rules_from slices 0 (unwrap_or (items_under (map (rule_entries slices) rules)) no_items) ≡ Ok rules
rules_read slices [] known each = refl
rules_read slices (rule ∷ rules) known each = rules_back slices 0 (rule ∷ rules) known each

swaps_read : (slices : List Slice) (swaps : List Swap) → AreNamed slices → AllByRecursion (IsPrintableSwap slices) swaps → swaps_from slices 0 (unwrap_or (items_under (map (swap_entries slices) swaps)) no_items) ≡ Ok swaps
swaps_read slices [] known each = refl
swaps_read slices (w ∷ swaps) known each = swaps_back slices 0 (w ∷ swaps) known each

version_limits : (swaps : List Swap) → (1 ≤ needed_version swaps) × (needed_version swaps < 2 ^ 63)
version_limits [] = (omega arith, omega arith)
version_limits (w ∷ swaps) = (omega arith, omega arith)

parts_from : (highest version : ℕ) (this : SectionView) (items : Items) (others ports : Option Items) (slices : List Slice) (rules : List Rule) (swaps : List Swap) → required (number (Between 1 highest)) this (codes "version") ≡ Ok version
    → known_keys (keys.Top version) this ≡ Ok tt → required some_tables this (codes "slice") ≡ Ok items → optional tables this (codes "rule") ≡ Ok others → optional tables this (codes "port") ≡ Ok ports
    → slices_from 0 items ≡ Ok slices → rules_from slices 0 (unwrap_or others no_items) ≡ Ok rules → swaps_from slices 0 (unwrap_or ports no_items) ≡ Ok swaps
    → parts_in highest this ≡ Ok (record { slices = slices; rules = rules; swaps = swaps })
unfolding parts_in
parts_from highest version this items others ports slices rules swaps version_read known slice_tables rule_tables port_tables slices_read rules_read swaps_read =
    bind_is (required (number (Between 1 highest)) this (codes "version")) _ version _ version_read
    (bind_is (known_keys (keys.Top version) this) _ tt _ known
    (bind_is (required some_tables this (codes "slice")) _ items _ slice_tables
    (bind_is (optional tables this (codes "rule")) _ others _ rule_tables
    (bind_is (optional tables this (codes "port")) _ ports _ port_tables
    (bind_is (slices_from 0 items) _ slices _ slices_read
    (bind_is (rules_from slices 0 (unwrap_or others no_items)) _ rules _ rules_read
    (bind_is (swaps_from slices 0 (unwrap_or ports no_items)) _ swaps _ swaps_read refl)))))))

parts_back : (highest : ℕ) (slice : Slice) (rest : List Slice) (rules : List Rule) (swaps : List Swap) → needed_version swaps ≤ highest → AllByRecursion IsPlainSlice (slice ∷ rest) → AreNamed (slice ∷ rest)
    → AllByRecursion (IsPrintable (slice ∷ rest)) rules → AllByRecursion (IsPrintableSwap (slice ∷ rest)) swaps
    → parts_in highest (whole (needed_version swaps) (map slice_entries (slice ∷ rest)) (map (rule_entries (slice ∷ rest)) rules) (map (swap_entries (slice ∷ rest)) swaps)) ≡ Ok (record { slices = slice ∷ rest; rules = rules; swaps = swaps })
parts_back highest slice rest rules swaps le plain known each each' =
    let slices = slice ∷ rest in
    let version = needed_version swaps in
    let slice_tables = map slice_entries slices in
    let rule_tables = map (rule_entries slices) rules in
    let port_tables = map (swap_entries slices) swaps in
    parts_from highest version (whole version slice_tables rule_tables port_tables) (items_of (map table_of slice_tables)) (items_under rule_tables) (items_under port_tables) slices rules swaps
    (version_there highest version slice_tables rule_tables port_tables (version_limits swaps).0 le)
    (known_there slices slice_tables rule_tables swaps)
    (slices_there version (slice_entries slice) (map slice_entries rest) rule_tables port_tables)
    (rules_there version slice_tables rule_tables port_tables)
    (ports_there version slice_tables rule_tables port_tables)
    (slices_back 0 slices plain)
    (rules_read slices rules known each)
    (swaps_read slices swaps known each')

-- ---- the policy

printable : (slices : List Slice) (rules : List Rule) → AllByRecursion IsPlainRule rules → AllByRecursion IsRuleInRange rules → AllByRecursion (λ r. IfSome r.writer (λ w. w < length slices)) rules
    → AllByRecursion (λ r. r.readers < 2 ^ length slices) rules → AllByRecursion (IsPrintable slices) rules
printable slices [] a b c d = tt
printable slices (r ∷ rest) a b c d = (record { plain = a.0; held = b.0; writer = c.0; readers = d.0 }, printable slices rest a.1 b.1 c.1 d.1)

printable_swaps : (slices : List Slice) (swaps : List Swap) → AllByRecursion IsPlainSwap swaps → AllByRecursion IsSwapInRange swaps → AllByRecursion (λ w. w.slice < length slices) swaps → AllByRecursion (IsPrintableSwap slices) swaps
printable_swaps slices [] a b c = tt
printable_swaps slices (w ∷ rest) a b c = (record { plain = a.0; held = b.0; slice = c.0 }, printable_swaps slices rest a.1 b.1 c.1)

-- what is known of a policy that is printed
pub record IsHeld (p : PolicyView) : Type 0 where
  pub policy : IsPolicy p.slices p.rules
  pub swaps : AreSwaps (length p.slices) p.swaps
  pub rules_held : AllByRecursion IsRuleInRange p.rules
  pub swaps_held : AllByRecursion IsSwapInRange p.swaps

read_parts : (highest : ℕ) (slices : List Slice) (rules : List Rule) (swaps : List Swap) → needed_version swaps ≤ highest → IsHeld (record { slices = slices; rules = rules; swaps = swaps })
    → parts_of highest (parse_document (document_text (needed_version swaps) (map slice_entries slices) (map (rule_entries slices) rules) (map (swap_entries slices) swaps))) ≡ Ok (record { slices = slices; rules = rules; swaps = swaps })
read_parts highest [] rules swaps le held = absurd (omega (arith, held.policy.proper.some_slice))
read_parts highest (slice ∷ rest) rules swaps le held =
    let slices = slice ∷ rest in
    let proper = held.policy.proper in
    let plain = recursion_from_All IsPlainSlice slices proper.plain_slices in
    let plain_swaps = recursion_from_All IsPlainSwap swaps held.swaps.plain in
    let known : AreNamed slices = record { few = proper.few_slices; differ = proper.names_differ } in
    let each = printable slices rules (recursion_from_All IsPlainRule rules proper.plain_rules) held.rules_held (recursion_from_All _ rules proper.writers_known) (recursion_from_All _ rules proper.readers_known) in
    let each' = printable_swaps slices swaps plain_swaps held.swaps_held (recursion_from_All _ swaps held.swaps.slices_known) in
    let is_parsed =
    parsed (needed_version swaps) (slice_entries slice) (map slice_entries rest) (map (rule_entries slices) rules) (map (swap_entries slices) swaps) (version_limits swaps).1
    (slices_apart slices) (rules_apart slices rules) (swaps_apart slices swaps) (slices_written slices plain) (rules_written slices rules held.rules_held) (swaps_written slices swaps plain_swaps) in
    ap (parts_of highest) is_parsed ∙ parts_back highest slice rest rules swaps le plain known each each'

document_is : (text : List ℕ) → IsUtf8 text → document_of text ≡ parse_document text
document_is text utf8 = rw (is_utf8-from_IsUtf8 text utf8) refl

held_normal : (rules : List Rule) → AllByRecursion IsRuleInRange rules → AllByRecursion (λ r. IsNormal r.pattern) rules
held_normal [] held = tt
held_normal (r ∷ rest) held = (held.0.normal, held_normal rest held.1)

pub printed : (highest : ℕ) (p : PolicyView) → needed_version p.swaps ≤ highest → IsHeld p → IsUtf8 (text_of p) → policy_up_to highest (document_of (text_of p)) ≡ Ok p
unfolding policy_text
printed highest p le held utf8 =
    let proper = held.policy.proper in
    let read : parts_of highest (document_of (text_of p)) ≡ Ok p = ap (parts_of highest) (document_is (text_of p) utf8 ∙ ap parse_document (text_is p)) ∙ read_parts highest p.slices p.rules p.swaps le held in
    let normal = All-from_recursion (λ r. IsNormal r.pattern) p.rules (held_normal p.rules held.rules_held) in
    let loads = (load_ports_of-iff p.slices p.rules p.swaps proper.some_slice proper.plain_slices proper.plain_rules normal held.swaps.plain).1 (held.policy, held.swaps) in
    bind_is (parts_of highest (document_of (text_of p))) _ p _ read (ap loaded loads)

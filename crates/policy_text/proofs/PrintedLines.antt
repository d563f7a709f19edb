-- The printed text is read as its entries.
use Rattle.std.proofs.Common.{◌≡◌, ℕ, suc, pos, ◌≤◌, Bool, true, false, List, [], ◌∷◌, ◌++◌, length, drop, map, subst, Option, Some, None, IfSome, option_map, option_and_then, codes, decimal, ◌<◌, ◌^◌, refl, sym, ap, ◌∙◌, append_assoc, arith}
use Rattle.std.proofs.lemmas.List.{append-nil}
use Rattle.toml_writer.specs.Text.{key_text}
use Rattle.toml.specs.Data.{Data, integer, array, Items, no_items, Members, no_members, member, depth, has_valid_dates}
use Rattle.toml.specs.View.{items_of}
use Rattle.toml.specs.Tables.{Nodes, no_nodes, node, value, open_array, replace, close, along_header, along_dots, at_key, key_value, array_table, Expression, Document, define}
use Rattle.toml.specs.Parse.{skip_bom, lines, parse_document}
use Rattle.toml.specs.Text.{IsValueText, IsLinesText}
use Rattle.toml.proofs.Fill.{run-append}
use Rattle.toml.proofs.ReadLines.{run, AllPrinted, read_lines}
use Rattle.toml.proofs.Turns.{document_some}
use Rattle.policy_text.specs.Printing.{Entry, value_text, entry_text, entries_text}
use Rattle.policy_text.proofs.PrintedNodes.{pairs_of, filled, AreNew-none, pairs_run, tables_lines, table_of, joined_items, EachApart, IsArray, Leads, tables_run}

-- ---- the text writes the lines

-- a value that is written and read as it is
abbrev pub IsWritten : Data → Type 0
IsWritten d = IsValueText false d (value_text d) × (depth d ≤ 80) × (has_valid_dates d ≡ true)

-- the keys are bare, and the values are written
abbrev pub AreWritten : List Entry → Type 0
AreWritten [] = Unit {0}
AreWritten (entry ∷ rest) = (key_text entry.0 ≡ entry.0) × IfSome entry.1 IsWritten × AreWritten rest

abbrev pub EachWritten : List (List Entry) → Type 0
EachWritten [] = Unit {0}
EachWritten (entries ∷ rest) = AreWritten entries × EachWritten rest

abbrev pub header_text : List ℕ → List ℕ
header_text key = codes "\n[[" ++ (key ++ codes "]]\n")

abbrev pub tables_text : List ℕ → List (List Entry) → List ℕ
tables_text key [] = []
tables_text key (entries ∷ rest) = header_text key ++ (entries_text entries ++ tables_text key rest)

entry_line : (key : List ℕ) (d : Data) (rest : List Expression) (text : List ℕ) (started : Bool) → key_text key ≡ key → IsWritten d → IsLinesText false true rest text
    → IsLinesText false started ((([], key), key_value d) ∷ rest) (entry_text (key, Some d) ++ text)
unfolding entry_text
entry_line key d rest text started bare good more =
    let this = entry_text (key, Some d) in
    let whole : this ≡ key_text key ++ (codes " = " ++ (value_text d ++ 10 ∷ [])) = ap (λ k. k ++ (codes " = " ++ (value_text d ++ 10 ∷ []))) (sym bare) in
    (this, text, refl, (value_text d, whole, good.0), more)

entries_lines : (entries : List Entry) (rest : List Expression) (text : List ℕ) → AreWritten entries → IsLinesText false true rest text → IsLinesText false true (pairs_of entries ++ rest) (entries_text entries ++ text)
unfolding entry_text
entries_lines [] rest text good more = more
entries_lines ((key, None) ∷ entries) rest text good more = entries_lines entries rest text good.2 more
entries_lines ((key, Some d) ∷ entries) rest text good more =
    rw (append_assoc (entry_text (key, Some d)) (entries_text entries) text)
    (entry_line key d (pairs_of entries ++ rest) (entries_text entries ++ text) true good.0 good.1 (entries_lines entries rest text good.2 more))

tables_are_lines : (key : List ℕ) (tables : List (List Entry)) (rest : List Expression) (text : List ℕ) → key_text key ≡ key → EachWritten tables → IsLinesText false true rest text
    → IsLinesText false true (tables_lines key tables ++ rest) (tables_text key tables ++ text)
tables_are_lines key [] rest text bare good more = more
tables_are_lines key (entries ∷ tables) rest text bare good more =
    let later = tables_are_lines key tables rest text bare good.1 more in
    let pairs = entries_lines entries (tables_lines key tables ++ rest) (tables_text key tables ++ text) good.0 later in
    let header : header_text key ≡ 10 ∷ (codes "[[" ++ (key_text key ++ codes "]]\n")) = ap header_text (sym bare) in
    let regrouped : tables_text key (entries ∷ tables) ++ text ≡ header_text key ++ (entries_text entries ++ (tables_text key tables ++ text)) = append_assoc (header_text key) (entries_text entries ++ tables_text key tables) text ∙ ap (λ t. header_text key ++ t) (append_assoc (entries_text entries) (tables_text key tables) text) in
    (header_text key, entries_text entries ++ (tables_text key tables ++ text), regrouped, header, rw (append_assoc (pairs_of entries) (tables_lines key tables) rest) pairs)

entries_printed : (entries : List Entry) (rest : List Expression) → AreWritten entries → AllPrinted rest → AllPrinted (pairs_of entries ++ rest)
entries_printed [] rest good more = more
entries_printed ((key, None) ∷ entries) rest good more = entries_printed entries rest good.2 more
entries_printed ((key, Some d) ∷ entries) rest good more = ((refl, good.1.1, good.1.2), entries_printed entries rest good.2 more)

tables_printed : (key : List ℕ) (tables : List (List Entry)) (rest : List Expression) → EachWritten tables → AllPrinted rest → AllPrinted (tables_lines key tables ++ rest)
tables_printed key [] rest good more = more
tables_printed key (entries ∷ tables) rest good more =
    (omega arith, rw (append_assoc (pairs_of entries) (tables_lines key tables) rest) (entries_printed entries (tables_lines key tables ++ rest) good.0 (tables_printed key tables rest good.1 more)))

-- ---- the document that the lines make

abbrev version_node : ℕ → Nodes
version_node version = node (codes "version") (value (integer (pos version))) no_nodes

abbrev slice_root : ℕ → Items → Nodes → Nodes
slice_root version done last = node (codes "slice") (open_array done last) (version_node version)

abbrev rule_root : Nodes → Items → Nodes → Nodes
rule_root base done last = node (codes "rule") (open_array done last) base

abbrev port_root : Nodes → Items → Nodes → Nodes
port_root base done last = node (codes "port") (open_array done last) base

slice_edit : (version : ℕ) (done : Items) (last : Nodes) (o : Option Nodes)
    → option_map (λ new. replace (codes "slice") new (slice_root version done last)) (option_map (open_array done) o) ≡ option_map (slice_root version done) o
slice_edit version done last None = refl
slice_edit version done last (Some new) = refl

is_slice_array : (version : ℕ) → IsArray (codes "slice") (slice_root version)
unfolding along_header define at_key
is_slice_array version = record { edits = λ done edit last. slice_edit version done last (edit last); next = λ done last. refl }

rule_edit : (base : Nodes) (done : Items) (last : Nodes) (o : Option Nodes)
    → option_map (λ new. replace (codes "rule") new (rule_root base done last)) (option_map (open_array done) o) ≡ option_map (rule_root base done) o
rule_edit base done last None = refl
rule_edit base done last (Some new) = refl

is_rule_array : (base : Nodes) → IsArray (codes "rule") (rule_root base)
unfolding along_header define at_key
is_rule_array base = record { edits = λ done edit last. rule_edit base done last (edit last); next = λ done last. refl }

port_edit : (base : Nodes) (done : Items) (last : Nodes) (o : Option Nodes)
    → option_map (λ new. replace (codes "port") new (port_root base done last)) (option_map (open_array done) o) ≡ option_map (port_root base done) o
port_edit base done last None = refl
port_edit base done last (Some new) = refl

is_port_array : (base : Nodes) → IsArray (codes "port") (port_root base)
unfolding along_header define at_key
is_port_array base = record { edits = λ done edit last. port_edit base done last (edit last); next = λ done last. refl }

-- a header starts an array behind what is there
abbrev Starts : List ℕ → (Items → Nodes → Nodes) → Document → Type 0
Starts key R doc = define doc (([], key), array_table) ≡ Some (R no_items no_nodes, key ∷ [])

-- the first table of an array, and the others
starts : (key : List ℕ) (R : Items → Nodes → Nodes) (is : IsArray key R) (doc : Document) (entries : List Entry) (tables : List (List Entry)) → Starts key R doc
    → EachApart (entries ∷ tables) → Leads key R (run doc (tables_lines key (entries ∷ tables))) (items_of (map table_of (entries ∷ tables)))
starts key R is doc entries tables first apart =
    let others = tables_run key R is tables no_items (filled entries no_nodes) apart.1 in
    let header = ap (option_and_then (λ next. run next (pairs_of entries ++ tables_lines key tables))) first in
    let pairs = pairs_run (R no_items) (key ∷ []) (is.edits no_items) entries no_nodes (tables_lines key tables) apart.0 (AreNew-none entries) in
    record { done = others.done; last = others.last; runs = header ∙ pairs ∙ others.runs; whole = others.whole ∙ joined_items (map table_of tables) (table_of entries ∷ []) }

first_slice : (version : ℕ) → Starts (codes "slice") (slice_root version) (version_node version, [])
unfolding along_header define at_key
first_slice version = refl

first_rule : (version : ℕ) (done : Items) (last : Nodes) → Starts (codes "rule") (rule_root (slice_root version done last)) (slice_root version done last, codes "slice" ∷ [])
unfolding along_header define at_key
first_rule version done last = refl

first_port_behind_slices : (version : ℕ) (done : Items) (last : Nodes) → Starts (codes "port") (port_root (slice_root version done last)) (slice_root version done last, codes "slice" ∷ [])
unfolding along_header define at_key
first_port_behind_slices version done last = refl

first_port_behind_rules : (version : ℕ) (slices_done : Items) (slices_last : Nodes) (done : Items) (last : Nodes)
    → (let root : Nodes = rule_root (slice_root version slices_done slices_last) done last in Starts (codes "port") (port_root root) (root, codes "rule" ∷ []))
unfolding along_header define at_key
first_port_behind_rules version slices_done slices_last done last = refl

first_line : (version : ℕ) → define (no_nodes, []) (([], codes "version"), key_value (integer (pos version))) ≡ Some (version_node version, [])
unfolding along_header along_dots define at_key
first_line version = refl

-- what the tables say
abbrev pub slices_said : ℕ → List Data → Members
slices_said version slices = member (codes "slice") (array (items_of slices)) (member (codes "version") (integer (pos version)) no_members)

-- an array in front, where it has tables
abbrev pub with_array : List ℕ → List Data → Members → Members
with_array key [] ms = ms
with_array key (d ∷ ds) ms = member key (array (items_of (d ∷ ds))) ms

abbrev pub said : ℕ → List Data → List Data → List Data → Members
said version slices rules ports = with_array (codes "port") ports (with_array (codes "rule") rules (slices_said version slices))

abbrev lines_of : ℕ → List (List Entry) → List (List Entry) → List (List Entry) → List Expression
lines_of version slices rules ports = (([], codes "version"), key_value (integer (pos version))) ∷ (tables_lines (codes "slice") slices ++ (tables_lines (codes "rule") rules ++ tables_lines (codes "port") ports))

record Ends (o : Option Document) (ms : Members) : Type 0 where
  pub doc : Document
  pub runs : o ≡ Some doc
  pub closed : close doc.0 ≡ ms

-- the lines of the port tables
port_ends : (base : Nodes) (path : List (List ℕ)) (ms : Members) (o : Option Document) (ports : List (List Entry)) → EachApart ports → Starts (codes "port") (port_root base) (base, path)
    → o ≡ run (base, path) (tables_lines (codes "port") ports) → close base ≡ ms → Ends o (with_array (codes "port") (map table_of ports) ms)
port_ends base path ms o [] apart first ran closed = record { doc = (base, path); runs = ran; closed = closed }
port_ends base path ms o (port ∷ ports) apart first ran closed =
    let more = starts (codes "port") (port_root base) (is_port_array base) (base, path) port ports first apart in
    record {
      doc = (port_root base more.done more.last, codes "port" ∷ []);
      runs = ran ∙ more.runs;
      closed = ap (λ i. member (codes "port") (array i) (close base)) more.whole ∙ ap (member (codes "port") (array (items_of (map table_of (port ∷ ports))))) closed;
    }

-- those of the rules, and of the port tables behind them
rule_ends : (version : ℕ) (done : Items) (last : Nodes) (ms : Members) (o : Option Document) (rules ports : List (List Entry)) → EachApart rules → EachApart ports
    → o ≡ run (slice_root version done last, codes "slice" ∷ []) (tables_lines (codes "rule") rules ++ tables_lines (codes "port") ports) → close (slice_root version done last) ≡ ms
    → Ends o (with_array (codes "port") (map table_of ports) (with_array (codes "rule") (map table_of rules) ms))
rule_ends version done last ms o [] ports apart apart' ran closed =
    port_ends (slice_root version done last) (codes "slice" ∷ []) ms o ports apart' (first_port_behind_slices version done last) ran closed
rule_ends version done last ms o (rule ∷ rules) ports apart apart' ran closed =
    let base = slice_root version done last in
    let more = starts (codes "rule") (rule_root base) (is_rule_array base) (base, codes "slice" ∷ []) rule rules (first_rule version done last) apart in
    let port_lines = tables_lines (codes "port") ports in
    let ran' = ran ∙ run-append (base, codes "slice" ∷ []) (tables_lines (codes "rule") (rule ∷ rules)) port_lines ∙ ap (option_and_then (λ d. run d port_lines)) more.runs in
    let closed' = ap (λ i. member (codes "rule") (array i) (close base)) more.whole ∙ ap (member (codes "rule") (array (items_of (map table_of (rule ∷ rules))))) closed in
    port_ends (rule_root base more.done more.last) (codes "rule" ∷ []) (with_array (codes "rule") (map table_of (rule ∷ rules)) ms) o ports apart' (first_port_behind_rules version done last more.done more.last) ran' closed'

ends : (version : ℕ) (slice : List Entry) (slices rules ports : List (List Entry)) → EachApart (slice ∷ slices) → EachApart rules → EachApart ports
    → Ends (run (no_nodes, []) (lines_of version (slice ∷ slices) rules ports)) (said version (map table_of (slice ∷ slices)) (map table_of rules) (map table_of ports))
ends version slice slices rules ports apart apart' apart'' =
    let all = slice ∷ slices in
    let behind = tables_lines (codes "rule") rules ++ tables_lines (codes "port") ports in
    let first = starts (codes "slice") (slice_root version) (is_slice_array version) (version_node version, []) slice slices (first_slice version) apart in
    let line = ap (option_and_then (λ next. run next (tables_lines (codes "slice") all ++ behind))) (first_line version) in
    let middle = line ∙ run-append (version_node version, []) (tables_lines (codes "slice") all) behind ∙ ap (option_and_then (λ d. run d behind)) first.runs in
    let closed : close (slice_root version first.done first.last) ≡ slices_said version (map table_of all) = ap (λ i. member (codes "slice") (array i) (member (codes "version") (integer (pos version)) no_members)) first.whole in
    rule_ends version first.done first.last (slices_said version (map table_of all)) (run (no_nodes, []) (lines_of version all rules ports)) rules ports apart' apart'' middle closed

-- ---- the text is read

slice_key : key_text (codes "slice") ≡ codes "slice"
unfolding key_text
slice_key = refl

rule_key : key_text (codes "rule") ≡ codes "rule"
unfolding key_text
rule_key = refl

port_key : key_text (codes "port") ≡ codes "port"
unfolding key_text
port_key = refl

version_key : key_text (codes "version") ≡ codes "version"
unfolding key_text
version_key = refl

abbrev pub version_line : ℕ → List ℕ
version_line version = codes "version = " ++ (decimal version ++ codes "\n")

abbrev tables_behind : List (List Entry) → List (List Entry) → List ℕ
tables_behind rules ports = tables_text (codes "rule") rules ++ tables_text (codes "port") ports

abbrev pub document_text : ℕ → List (List Entry) → List (List Entry) → List (List Entry) → List ℕ
document_text version slices rules ports = version_line version ++ (tables_text (codes "slice") slices ++ tables_behind rules ports)

first_text : (version : ℕ) → entry_text (codes "version", Some (integer (pos version))) ≡ version_line version
unfolding entry_text
first_text version = refl

pub number_written : (n : ℕ) → n < 2 ^ 63 → IsWritten (integer (pos n))
number_written n lt = ((refl, omega (arith, lt)), omega arith, refl)

no_mark : (text : List ℕ) → skip_bom (118 ∷ text) ≡ 118 ∷ text
unfolding skip_bom
no_mark text = refl

last_lines : (key : List ℕ) (tables : List (List Entry)) → key_text key ≡ key → EachWritten tables → IsLinesText false true (tables_lines key tables) (tables_text key tables)
last_lines key tables bare good =
    let are : IsLinesText false true (tables_lines key tables ++ []) (tables_text key tables ++ []) = tables_are_lines key tables [] [] bare good refl in
    rw (append-nil (tables_lines key tables), append-nil (tables_text key tables)) at are

last_printed : (key : List ℕ) (tables : List (List Entry)) → EachWritten tables → AllPrinted (tables_lines key tables)
last_printed key tables good =
    let printed : AllPrinted (tables_lines key tables ++ []) = tables_printed key tables [] good tt in
    rw (append-nil (tables_lines key tables)) at printed

pub parsed : (version : ℕ) (slice : List Entry) (slices rules ports : List (List Entry)) → version < 2 ^ 63 → EachApart (slice ∷ slices) → EachApart rules → EachApart ports → EachWritten (slice ∷ slices) → EachWritten rules → EachWritten ports
    → parse_document (document_text version (slice ∷ slices) rules ports) ≡ Some (said version (map table_of (slice ∷ slices)) (map table_of rules) (map table_of ports))
parsed version slice slices rules ports few apart apart' apart'' good good' good'' =
    let all = slice ∷ slices in
    let port_lines = tables_lines (codes "port") ports in
    let behind = tables_lines (codes "rule") rules ++ port_lines in
    let es = lines_of version all rules ports in
    let text = document_text version all rules ports in
    let behind_are = tables_are_lines (codes "rule") rules port_lines (tables_text (codes "port") ports) rule_key good' (last_lines (codes "port") ports port_key good'') in
    let slices_are = tables_are_lines (codes "slice") all behind (tables_behind rules ports) slice_key good behind_are in
    let rest = tables_text (codes "slice") all ++ tables_behind rules ports in
    let written = number_written version few in
    let first = entry_line (codes "version") (integer (pos version)) (tables_lines (codes "slice") all ++ behind) rest false version_key written slices_are in
    let are : IsLinesText false false es text = subst (λ t. IsLinesText false false es (t ++ rest)) (first_text version) first in
    let behind_printed = tables_printed (codes "rule") rules port_lines good' (last_printed (codes "port") ports good'') in
    let printed : AllPrinted es = ((refl, omega arith, refl), tables_printed (codes "slice") all behind good behind_printed) in
    let read = read_lines false false es text text (no_nodes, []) (suc (length text)) are printed refl (omega arith) in
    let end = ends version slice slices rules ports apart apart' apart'' in
    document_some text end.doc (ap (lines (suc (length text)) (no_nodes, [])) (no_mark (drop 1 text)) ∙ read ∙ end.runs) ∙ ap Some end.closed

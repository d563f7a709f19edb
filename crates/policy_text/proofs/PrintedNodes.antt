-- What the printed lines of a table do to the nodes, and what stands under its keys afterwards.
use Rattle.std.proofs.Common.{◌≡◌, ℕ, Bool, true, false, not, ◌&&◌, cond, List, [], ◌∷◌, ◌++◌, ◌⊎◌, subst, true≢false, map, append_assoc, Option, Some, None, option_map, option_and_then, Ordering, Less, Equal, Greater, nat_cmp, refl, sym, ap, ◌∙◌, inl, inr}
use Rattle.std.specs.Cmp.Lexicographic.{slice_cmp, bytes_decides, texts_ties}
use Rattle.std.proofs.lemmas.Bool.{cases_Bool, and_parts, not-true}
use Rattle.std.proofs.lemmas.List.{append-nil}
use Rattle.toml.specs.Data.{Data, table, Items, item, Members, get_member, push_item, same_key}
use Rattle.toml.specs.View.{items_of}
use Rattle.toml.specs.Tables.{Node, Nodes, no_nodes, node, value, get_node, insert, close, close_node, along_header, along_dots, Edit, put, key_value, array_table, Expression, Document, define}
use Rattle.toml.proofs.NodeLaws.{same_key-self, get_node-insert}
use Rattle.toml.proofs.Turns.{at_key_new}
use Rattle.toml.proofs.ReadLines.{run}
use Rattle.policy_text.specs.declared.known_keys.Keys.{Keys}
use Rattle.policy_text.specs.Reading.{is_known_key, unknown_keys}
use Rattle.policy_text.specs.Printing.{Entry}
use Rattle.policy_text.proofs.Keys.{equal_is}

-- ---- entries as lines, and as nodes

abbrev pub pairs_of : List Entry → List Expression
pairs_of [] = []
pairs_of ((key, None) ∷ rest) = pairs_of rest
pairs_of ((key, Some d) ∷ rest) = (([], key), key_value d) ∷ pairs_of rest

abbrev pub filled : List Entry → Nodes → Nodes
filled [] ns = ns
filled ((key, None) ∷ rest) ns = filled rest ns
filled ((key, Some d) ∷ rest) ns = filled rest (insert key (value d) ns)

-- what the entries say of a key
abbrev pub found : List ℕ → List Entry → Option Data
found key [] = None
found key ((other, o) ∷ rest) = cond (same_key key other) o (found key rest)

-- no later key is this one
abbrev pub is_apart : List ℕ → List Entry → Bool
is_apart key [] = true
is_apart key (entry ∷ rest) = not (same_key entry.0 key) && is_apart key rest

-- no key stands twice
abbrev pub are_apart : List Entry → Bool
are_apart [] = true
are_apart (entry ∷ rest) = is_apart entry.0 rest && are_apart rest

-- ---- one insertion

three : (o : Ordering) → (o ≡ Less) ⊎ (o ≡ Equal) ⊎ (o ≡ Greater)
three Less = inl refl
three Equal = inr (inl refl)
three Greater = inr (inr refl)

-- another key finds what it found before
other_key : (key other : List ℕ) (x : Node) (ns : Nodes) → same_key key other ≡ false → get_node key (insert other x ns) ≡ get_node key ns
other_key key other x no_nodes e = rw e refl
other_key key other x (node l y ns) e =
    elim (three (slice_cmp nat_cmp other l)) [
      | inl less ↦ rw (less, e) refl
      | inr more ↦ elim more [
        | inl tie ↦
            let apart : same_key key l ≡ false = subst (λ k. same_key key k ≡ false) (equal_is other l tie) e in
            rw (tie, apart) refl
        | inr greater ↦ rw (greater, other_key key other x ns e) refl
      ]
    ]

get_close : (key : List ℕ) (ns : Nodes) → get_member key (close ns) ≡ option_map close_node (get_node key ns)
get_close key no_nodes = refl
get_close key (node l y ns) =
    elim (three (slice_cmp nat_cmp key l)) [
      | inl less ↦ rw less (get_close key ns)
      | inr more ↦ elim more [
        | inl tie ↦ rw tie refl
        | inr greater ↦ rw greater (get_close key ns)
      ]
    ]

known_head : (b : Bool) (key : List ℕ) (rest : List (List ℕ)) → cond b rest (key ∷ rest) ≡ [] → (b ≡ true) × (rest ≡ [])
known_head true key rest e = (refl, e)
known_head false key rest e = absurd cc

unknown_insert : (kind : Keys) (key : List ℕ) (x : Node) (ns : Nodes) → is_known_key kind key ≡ true → unknown_keys kind (close ns) ≡ [] → unknown_keys kind (close (insert key x ns)) ≡ []
unknown_insert kind key x no_nodes known none = rw known refl
unknown_insert kind key x (node l y ns) known none =
    let (known_l, rest) = known_head (is_known_key kind l) l (unknown_keys kind (close ns)) none in
    elim (three (slice_cmp nat_cmp key l)) [
      | inl less ↦ rw (less, known, known_l) rest
      | inr more ↦ elim more [
        | inl tie ↦ rw (tie, known_l) rest
        | inr greater ↦ rw (greater, known_l) (unknown_insert kind key x ns known rest)
      ]
    ]

-- ---- all entries

-- none of the keys is there yet
abbrev pub AreNew : List Entry → Nodes → Type 0
AreNew [] ns = Unit {0}
AreNew (entry ∷ rest) ns = (get_node entry.0 ns ≡ None) × AreNew rest ns

AreNew-insert : (entries : List Entry) (key : List ℕ) (x : Node) (ns : Nodes) → is_apart key entries ≡ true → AreNew entries ns → AreNew entries (insert key x ns)
AreNew-insert [] key x ns apart new = tt
AreNew-insert (entry ∷ rest) key x ns apart new =
    let (here, more) = and_parts (not (same_key entry.0 key)) (is_apart key rest) apart in
    (other_key entry.0 key x ns (not-true (same_key entry.0 key) here) ∙ new.0, AreNew-insert rest key x ns more new.1)

pub AreNew-none : (entries : List Entry) → AreNew entries no_nodes
AreNew-none [] = tt
AreNew-none (entry ∷ rest) = (refl, AreNew-none rest)

key_is : (a b : List ℕ) → same_key a b ≡ true → a ≡ b
key_is a b e = (bytes_decides a b).0 (texts_ties a b ∙ e)

other_way : (a b : List ℕ) → same_key a b ≡ false → same_key b a ≡ false
other_way a b e =
    elim (cases_Bool (same_key b a)) [
      | inl same ↦ absurd (true≢false (sym (same_key-self a) ∙ subst (λ x. same_key a x ≡ false) (key_is b a same) e))
      | inr other ↦ other
    ]

-- a key that stands once isn't found later
found_none : (key : List ℕ) (entries : List Entry) → is_apart key entries ≡ true → found key entries ≡ None
found_none key [] apart = refl
found_none key (entry ∷ rest) apart =
    let (here, more) = and_parts (not (same_key entry.0 key)) (is_apart key rest) apart in
    let other = other_way entry.0 key (not-true (same_key entry.0 key) here) in
    rw other (found_none key rest more)

-- what a key finds at the end
abbrev seen : Option Data → Option Node → Option Node
seen None o = o
seen (Some d) o = Some (value d)

get_filled : (key : List ℕ) (entries : List Entry) (ns : Nodes) → are_apart entries ≡ true → AreNew entries ns → get_node key (filled entries ns) ≡ seen (found key entries) (get_node key ns)
get_filled key [] ns apart new = refl
get_filled key ((other, None) ∷ rest) ns apart new =
    let (here, more) = and_parts (is_apart other rest) (are_apart rest) apart in
    elim (cases_Bool (same_key key other)) [
      | inl same ↦
          let none : found key rest ≡ None = found_none key rest (subst (λ k. is_apart k rest ≡ true) (sym (key_is key other same)) here) in
          rw same (get_filled key rest ns more new.1 ∙ ap (λ o. seen o (get_node key ns)) none)
      | inr differs ↦ rw differs (get_filled key rest ns more new.1)
    ]
get_filled key ((other, Some d) ∷ rest) ns apart new =
    let (here, more) = and_parts (is_apart other rest) (are_apart rest) apart in
    let later = get_filled key rest (insert other (value d) ns) more (AreNew-insert rest other (value d) ns here new.1) in
    elim (cases_Bool (same_key key other)) [
      | inl same ↦
          let is : key ≡ other = key_is key other same in
          let none : found key rest ≡ None = found_none key rest (subst (λ k. is_apart k rest ≡ true) (sym is) here) in
          let written : get_node key (insert other (value d) ns) ≡ Some (value d) = subst (λ k. get_node k (insert other (value d) ns) ≡ Some (value d)) (sym is) (get_node-insert other (value d) ns) in
          rw same (later ∙ ap (λ o. seen o (get_node key (insert other (value d) ns))) none ∙ written)
      | inr differs ↦ rw differs (later ∙ ap (seen (found key rest)) (other_key key other (value d) ns differs))
    ]

seen_back : (o : Option Data) → option_map close_node (seen o None) ≡ o
seen_back None = refl
seen_back (Some d) = refl

-- the members of a table with these entries
abbrev pub members_from : List Entry → Members
members_from entries = close (filled entries no_nodes)

pub get_entry : (key : List ℕ) (entries : List Entry) → are_apart entries ≡ true → get_member key (members_from entries) ≡ found key entries
get_entry key entries apart =
    get_close key (filled entries no_nodes) ∙ ap (option_map close_node) (get_filled key entries no_nodes apart (AreNew-none entries)) ∙ seen_back (found key entries)

-- each key is one that such a table may have
abbrev pub all_known : Keys → List Entry → Bool
all_known kind [] = true
all_known kind (entry ∷ rest) = is_known_key kind entry.0 && all_known kind rest

known_filled : (kind : Keys) (entries : List Entry) (ns : Nodes) → all_known kind entries ≡ true → unknown_keys kind (close ns) ≡ [] → unknown_keys kind (close (filled entries ns)) ≡ []
known_filled kind [] ns known none = none
known_filled kind ((key, None) ∷ rest) ns known none =
    let (here, more) = and_parts (is_known_key kind key) (all_known kind rest) known in
    known_filled kind rest ns more none
known_filled kind ((key, Some d) ∷ rest) ns known none =
    let (here, more) = and_parts (is_known_key kind key) (all_known kind rest) known in
    known_filled kind rest (insert key (value d) ns) more (unknown_insert kind key (value d) ns here none)

pub known_entries : (kind : Keys) (entries : List Entry) → all_known kind entries ≡ true → unknown_keys kind (members_from entries) ≡ []
known_entries kind entries known = known_filled kind entries no_nodes known refl

-- ---- lines

-- pairs under a header fill the table of the header
pub pairs_run : (R : Nodes → Nodes) (path : List (List ℕ)) → ((edit : Edit) (last : Nodes) → along_header path edit (R last) ≡ option_map R (edit last)) → (entries : List Entry) (last : Nodes) (more : List Expression)
    → are_apart entries ≡ true → AreNew entries last → run (R last, path) (pairs_of entries ++ more) ≡ run (R (filled entries last), path) more
unfolding define along_dots
pairs_run R path step [] last more apart new = refl
pairs_run R path step ((key, None) ∷ rest) last more apart new =
    let (here, later) = and_parts (is_apart key rest) (are_apart rest) apart in
    pairs_run R path step rest last more later new.1
pairs_run R path step ((key, Some d) ∷ rest) last more apart new =
    let (here, later) = and_parts (is_apart key rest) (are_apart rest) apart in
    let edited : along_header path (put ([], key) d) (R last) ≡ Some (R (insert key (value d) last)) = step (put ([], key) d) last ∙ ap (option_map R) (at_key_new key (key_value d) last new.0) in
    ap (λ o. option_and_then (λ next. run next (pairs_of rest ++ more)) (option_map (λ root. (root, path)) o)) edited
    ∙ pairs_run R path step rest (insert key (value d) last) more later (AreNew-insert rest key (value d) last here new.1)

-- tables of one array, each under a header
abbrev pub tables_lines : List ℕ → List (List Entry) → List Expression
tables_lines key [] = []
tables_lines key (entries ∷ rest) = (([], key), array_table) ∷ (pairs_of entries ++ tables_lines key rest)

abbrev pub table_of : List Entry → Data
table_of entries = table (members_from entries)

abbrev pub joined : Items → List Data → Items
joined items [] = items
joined items (d ∷ rest) = joined (push_item items d) rest

-- no table has a key twice
abbrev pub EachApart : List (List Entry) → Type 0
EachApart [] = Unit {0}
EachApart (entries ∷ rest) = (are_apart entries ≡ true) × EachApart rest

-- a document whose last array has these items and this last table
pub record IsArray (key : List ℕ) (R : Items → Nodes → Nodes) : Type 0 where
  pub edits : (done : Items) (edit : Edit) (last : Nodes) → along_header (key ∷ []) edit (R done last) ≡ option_map (R done) (edit last)
  pub next : (done : Items) (last : Nodes) → define (R done last, key ∷ []) (([], key), array_table) ≡ Some (R (push_item done (table (close last))) no_nodes, key ∷ [])

-- where the lines of tables lead
pub record Leads (key : List ℕ) (R : Items → Nodes → Nodes) (start : Option Document) (items : Items) : Type 0 where
  pub done : Items
  pub last : Nodes
  pub runs : start ≡ Some (R done last, key ∷ [])
  pub whole : push_item done (table (close last)) ≡ items

pub tables_run : (key : List ℕ) (R : Items → Nodes → Nodes) (is : IsArray key R) (tables : List (List Entry)) (done : Items) (last : Nodes) → EachApart tables
    → Leads key R (run (R done last, key ∷ []) (tables_lines key tables)) (joined (push_item done (table (close last))) (map table_of tables))
tables_run key R is [] done last apart = record { done = done; last = last; runs = refl; whole = refl }
tables_run key R is (entries ∷ rest) done last apart =
    let more = push_item done (table (close last)) in
    let filled_now = filled entries no_nodes in
    let after = tables_run key R is rest more filled_now apart.1 in
    let header = ap (option_and_then (λ next. run next (pairs_of entries ++ tables_lines key rest))) (is.next done last) in
    let pairs = pairs_run (R more) (key ∷ []) (is.edits more) entries no_nodes (tables_lines key rest) apart.0 (AreNew-none entries) in
    record { done = after.done; last = after.last; runs = header ∙ pairs ∙ after.runs; whole = after.whole }

push_last : (xs : List Data) (d : Data) → push_item (items_of xs) d ≡ items_of (xs ++ d ∷ [])
push_last [] d = refl
push_last (x ∷ xs) d = ap (item x) (push_last xs d)

pub joined_items : (ds xs : List Data) → joined (items_of xs) ds ≡ items_of (xs ++ ds)
joined_items [] xs = ap items_of (sym (append-nil xs))
joined_items (d ∷ ds) xs = ap (λ i. joined i ds) (push_last xs d) ∙ joined_items ds (xs ++ d ∷ []) ∙ ap items_of (append_assoc xs (d ∷ []) ds)

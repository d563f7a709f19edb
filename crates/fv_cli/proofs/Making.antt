-- What is read of a made recording, and how many rounds words can ask for.
use Rattle.std.proofs.Common.{ℕ, ◌≡◌, ◌+◌, ◌≤◌, ◌&&◌, if◌then◌else◌, Bool, true, false, leb, leb-true, List, [], ◌∷◌, ◌++◌, take, drop, length, refl, sym, ap, ap₂, ◌∙◌, append_assoc, subst, Option, Some, None, Result, Ok, codes, arith}
use Rattle.std.specs.Prelude.{IfSome, IfOk, bytes_eq}
use Rattle.std.specs.List.{flat_map}
use Rattle.std.proofs.Math.Seq.{drop-append_seam, take-append_seam}
use Rattle.std.proofs.lemmas.List.{length-append}
use Rattle.std.proofs.lemmas.Bool.{and_parts}
use Rattle.recording.specs.Recordings.{Told, head_spelling, record_bytes, magic, placed_record, all_told}
use Rattle.desk_words.specs.Recorded.{told_by, told_in}
use Rattle.fv_base.specs.Words.{FormBytes, OfCheck, OfReplay, OfGen, OfServe, OfVirtual, OfChange, OfFlatten, OfAudit, OfTrace, gen_of, seed_of, rounds_of, number_of, within, serve_of, of_two, of_three, three_of, four_of, form_of, is_plain, connections_of}
use Rattle.fv_generator.specs.Made.{records_of, recording_of}

pub same_Ok : {A E : Type 0} (result : Result A E) (x y : A) → result ≡ Ok x → result ≡ Ok y → x ≡ y
same_Ok {A} {E} result x y first second = subst (λ (r : Result A E). IfOk r (λ v. x ≡ v)) (sym first ∙ second) refl

-- ---- what is read

head_of : Told → List ℕ
head_of t = head_spelling t.kind t.switch t.slot (length t.bytes) t.moment

head_size : (t : Told) → length (head_of t) ≡ 16
unfolding head_of head_spelling
head_size t = refl

-- records that stand behind other bytes
read_behind : (before : List ℕ) (told : List Told) → told_in (before ++ flat_map record_bytes told) (all_told (length before) told) ≡ told
unfolding all_told head_of
read_behind before [] = refl
read_behind before (t ∷ others) =
    let rest = flat_map record_bytes others in
    let file = before ++ (record_bytes t ++ rest) in
    let sixteen = head_size t in
    let placed : length (before ++ head_of t) ≡ length before + 16 = omega (arith, length-append before (head_of t), sixteen) in
    let parted : file ≡ (before ++ head_of t) ++ (t.bytes ++ rest) = ap (λ (text : List ℕ). before ++ text) (append_assoc (head_of t) t.bytes rest) ∙ sym (append_assoc before (head_of t) (t.bytes ++ rest)) in
    let carries : take (length t.bytes) (drop (length before + 16) file) ≡ t.bytes =
    ap (take (length t.bytes)) (ap₂ (λ (n : ℕ) (text : List ℕ). drop n text) (sym placed) parted ∙ drop-append_seam (before ++ head_of t) (t.bytes ++ rest)) ∙ take-append_seam t.bytes rest in
    let next : length (before ++ record_bytes t) ≡ length before + 16 + length t.bytes = omega (arith, length-append before (record_bytes t), length-append (head_of t) t.bytes, sixteen) in
    let later : told_in file (all_told (length before + 16 + length t.bytes) others) ≡ others =
    subst (λ (at : ℕ). told_in file (all_told at others) ≡ others) next
    (subst (λ (text : List ℕ). told_in text (all_told (length (before ++ record_bytes t)) others) ≡ others) (append_assoc before (record_bytes t) rest) (read_behind (before ++ record_bytes t) others)) in
    ap₂ (λ (bytes : List ℕ) (more : List Told). told_by (placed_record (length before) t) bytes ∷ more) carries later

-- the records that are read of a made recording are those that were drawn
pub made_is_told : (seed count : ℕ) → told_in (recording_of seed count) (all_told 8 (records_of seed count)) ≡ records_of seed count
made_is_told seed count = read_behind magic (records_of seed count)

-- ---- how many rounds

-- words that ask for a recording ask for few rounds
abbrev IsFew : Option FormBytes → Type 0
IsFew (Some (OfGen seed count)) = count ≤ 1000000
IsFew _ = Unit {0}

most : (least limit : ℕ) (number : Option ℕ) → IfSome (within least limit number) (λ n. n ≤ limit)
most least limit None = tt
most least limit (Some n) = elim (leb least n && leb n limit) as (λ b. (leb least n && leb n limit) ≡ b → IfSome (if b then Some n else None) (λ m. m ≤ limit)) [
  | true ↦ λ is. leb-true n limit (and_parts (leb least n) (leb n limit) is).1
  | false ↦ λ is. tt
] refl

few_if : (b : Bool) (form other : Option FormBytes) → IsFew form → IsFew other → IsFew (if b then form else other)
few_if true form other few others = few
few_if false form other few others = others

few_of_two : (command first second : List ℕ) → IsFew (of_two command first second)
few_of_two command first second =
    few_if (bytes_eq command (codes "replay")) (Some (OfReplay first second)) _ tt
    (few_if (bytes_eq command (codes "virtual")) (Some (OfVirtual first second)) _ tt
    (few_if (bytes_eq command (codes "audit")) (Some (OfAudit first second)) _ tt
    (few_if (bytes_eq command (codes "trace")) (Some (OfTrace first second)) None tt tt)))

few_of_three : (command first second third : List ℕ) → IsFew (of_three command first second third)
few_of_three command first second third =
    few_if (bytes_eq command (codes "change")) (Some (OfChange first second third)) _ tt
    (few_if (bytes_eq command (codes "flatten")) (Some (OfFlatten first second third)) None tt tt)

few_of_gen : (seed count : Option ℕ) → IfSome count (λ n. n ≤ 1000000) → IsFew (gen_of seed count)
few_of_gen None count few = tt
few_of_gen (Some seed) None few = tt
few_of_gen (Some seed) (Some count) few = few

few_of_serve : (policy listen : List ℕ) (count : Option ℕ) → IsFew (serve_of policy listen count)
few_of_serve policy listen None = tt
few_of_serve policy listen (Some count) = few_if (is_plain policy && is_plain listen) (Some (OfServe policy listen count)) None tt tt

few_three : (command second third : List ℕ) → IsFew (three_of command second third)
few_three command second third =
    few_if (bytes_eq command (codes "gen")) (gen_of (seed_of second) (rounds_of third)) _ (few_of_gen (seed_of second) (rounds_of third) (most 0 1000000 (number_of third)))
    (few_if (is_plain second && is_plain third) (of_two command second third) None (few_of_two command second third) tt)

few_four : (command second third fourth : List ℕ) → IsFew (four_of command second third fourth)
few_four command second third fourth =
    few_if (bytes_eq command (codes "serve")) (serve_of second third (connections_of fourth)) _ (few_of_serve second third (connections_of fourth))
    (few_if (is_plain second && is_plain third && is_plain fourth) (of_three command second third fourth) None (few_of_three command second third fourth) tt)

few_words : (words : List (List ℕ)) → IsFew (form_of words)
few_words [] = tt
few_words (a ∷ []) = tt
few_words (command ∷ policy ∷ []) = few_if (bytes_eq command (codes "check") && is_plain policy) (Some (OfCheck policy)) None tt tt
few_words (command ∷ second ∷ third ∷ []) = few_three command second third
few_words (command ∷ second ∷ third ∷ fourth ∷ []) = few_four command second third fourth
few_words (a ∷ b ∷ c ∷ d ∷ e ∷ more) = tt

pub few_rounds : (words : List (List ℕ)) (seed count : ℕ) → Some (OfGen seed count) ≡ form_of words → count ≤ 1000000
few_rounds words seed count is = subst IsFew (sym is) (few_words words)

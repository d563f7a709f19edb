-- The fault of a list is that of its first action that is wrong.
use Rattle.std.proofs.Common.{◌≡◌, ℕ, zero, suc, ◌+◌, ◌≤◌, ◌<◌, ◌%◌, ◌↔◌, inl, inr, List, [], ◌∷◌, ◌++◌, length, take, drop, slice_index, Result, Ok, Err, refl, sym, ap, subst, ◌∙◌, append_assoc, arith}
use Rattle.std.proofs.Math.Seq.{drop-append_seam}
use Rattle.std.proofs.lemmas.Bool.{le-ltb, eq-eqb, ne_eqb}
use Rattle.std.proofs.lemmas.List.{length-append, length-take-le, take-append-drop}
use Rattle.byteorder.specs.Numbers.{big_from-append}
use Rattle.of10_model.specs.Normal.{number_at}
use Rattle.of10_model.specs.Results.{◌>>=◌}
use Rattle.of10_model.proofs.Results.{bind_ok, bind_err, others_wrong}
use Rattle.of10_action.specs.declared.action.Action.{Action}
use Rattle.of10_action.specs.declared.fault.WireFault.{WireFault}
use Rattle.of10_action.specs.Actions.{size_of}
use Rattle.of10_action.specs.Reading.{head_at, action_of, action_at, actions_at, read_all, IsFirstFault}
use Rattle.of10_action.proofs.Loop.{first_is, shorter, reads_on}

pub number_front : (own more : List ℕ) (place n : ℕ) → place + n ≤ length own → number_at (own ++ more) place n ≡ number_at own place n
number_front own more zero n le = big_from-append n own more (omega arith)
number_front [] more (suc place) n le = absurd (omega arith)
number_front (b ∷ own) more (suc place) n le = number_front own more place n (omega arith)

pub byte_front : (own more : List ℕ) (place : ℕ) → place < length own → slice_index (own ++ more) place ≡ slice_index own place
byte_front [] more place lt = absurd (omega arith)
byte_front (b ∷ own) more zero lt = refl
byte_front (b ∷ own) more (suc place) lt = byte_front own more place (omega arith)

-- an action lies in its own bytes
pub action_front : (kind : ℕ) (own more : List ℕ) → kind ≤ 11 → size_of kind ≤ length own → action_of kind (own ++ more) ≡ action_of kind own
unfolding action_of
action_front zero own more le fits = rw (number_front own more 4 2 (omega arith), number_front own more 6 2 (omega arith)) refl
action_front (suc zero) own more le fits = rw (number_front own more 4 2 (omega arith)) refl
action_front (suc (suc zero)) own more le fits = rw (byte_front own more 4 (omega arith)) refl
action_front (suc (suc (suc zero))) own more le fits = refl
action_front (suc (suc (suc (suc zero)))) own more le fits = rw (number_front own more 4 6 (omega arith)) refl
action_front (suc (suc (suc (suc (suc zero))))) own more le fits = rw (number_front own more 4 6 (omega arith)) refl
action_front (suc (suc (suc (suc (suc (suc zero)))))) own more le fits = rw (number_front own more 4 4 (omega arith)) refl
action_front (suc (suc (suc (suc (suc (suc (suc zero))))))) own more le fits = rw (number_front own more 4 4 (omega arith)) refl
action_front (suc (suc (suc (suc (suc (suc (suc (suc zero)))))))) own more le fits = rw (byte_front own more 4 (omega arith)) refl
action_front (suc (suc (suc (suc (suc (suc (suc (suc (suc zero))))))))) own more le fits = rw (number_front own more 4 2 (omega arith)) refl
action_front (suc (suc (suc (suc (suc (suc (suc (suc (suc (suc zero)))))))))) own more le fits = rw (number_front own more 4 2 (omega arith)) refl
action_front (suc (suc (suc (suc (suc (suc (suc (suc (suc (suc (suc zero))))))))))) own more le fits = rw (number_front own more 4 2 (omega arith), number_front own more 12 4 (omega arith)) refl
action_front (suc (suc (suc (suc (suc (suc (suc (suc (suc (suc (suc (suc n)))))))))))) own more le fits = absurd (omega arith)

eighths : (kind : ℕ) → kind ≤ 11 → size_of kind % 8 ≡ 0
eighths zero le = refl
eighths (suc zero) le = refl
eighths (suc (suc zero)) le = refl
eighths (suc (suc (suc zero))) le = refl
eighths (suc (suc (suc (suc zero)))) le = refl
eighths (suc (suc (suc (suc (suc zero))))) le = refl
eighths (suc (suc (suc (suc (suc (suc zero)))))) le = refl
eighths (suc (suc (suc (suc (suc (suc (suc zero))))))) le = refl
eighths (suc (suc (suc (suc (suc (suc (suc (suc zero)))))))) le = refl
eighths (suc (suc (suc (suc (suc (suc (suc (suc (suc zero))))))))) le = refl
eighths (suc (suc (suc (suc (suc (suc (suc (suc (suc (suc zero)))))))))) le = refl
eighths (suc (suc (suc (suc (suc (suc (suc (suc (suc (suc (suc zero))))))))))) le = refl
eighths (suc (suc (suc (suc (suc (suc (suc (suc (suc (suc (suc (suc n)))))))))))) le = absurd (omega arith)

-- a known kind, of its length and within the bytes, is the head
pub head_from : (bytes : List ℕ) (kind size : ℕ) → number_at bytes 0 2 ≡ kind → number_at bytes 2 2 ≡ size → 8 ≤ size → size ≤ length bytes → kind ≤ 11 → size ≡ size_of kind → head_at bytes ≡ Ok (kind, size)
unfolding head_at
head_from bytes kind size is_kind is_size eight fits le of_kind =
    let parts : size % 8 ≡ 0 = ap (λ n. n % 8) of_kind ∙ eighths kind le in
    rw (is_kind, is_size, le-ltb (length bytes) 4 (omega arith), le-ltb (length bytes) 8 (omega arith), le-ltb size 8 eight, parts, le-ltb (length bytes) size fits, ne_eqb kind 65535 (λ e. omega (arith, e)), le-ltb 11 kind le, eq-eqb size (size_of kind) of_kind) refl

-- the bytes of an action that is read, which give it whatever stands behind them
own_bytes : (bytes : List ℕ) (x : Action × List ℕ) → action_at bytes ≡ Ok x → (own : List ℕ) × (bytes ≡ own ++ x.1) × ((other : List ℕ) → action_at (own ++ other) ≡ Ok (x.0, other))
unfolding action_at
own_bytes bytes x e =
    let (head, s, made) = first_is bytes x e in
    let kind = head.0 in
    let size = head.1 in
    let own = take size bytes in
    let more = drop size bytes in
    let whole : own ++ more ≡ bytes = take-append-drop size bytes in
    let long : length own ≡ size = length-take-le size bytes s.whole in
    let P : Action × List ℕ → Type 0 = λ y. (bytes ≡ own ++ y.1) × ((other : List ℕ) → action_at (own ++ other) ≡ Ok (y.0, other)) in
    let within : size_of kind ≤ length own = rw (← s.of_kind) (omega (arith, long)) in
    let again : (other : List ℕ) → action_at (own ++ other) ≡ Ok (action_of kind bytes, other) = λ other.
    let is_kind : number_at (own ++ other) 0 2 ≡ kind = number_front own other 0 2 (omega (arith, long, s.eight)) ∙ sym (number_front own more 0 2 (omega (arith, long, s.eight))) ∙ ap (λ l. number_at l 0 2) whole ∙ s.kind in
    let is_size : number_at (own ++ other) 2 2 ≡ size = number_front own other 2 2 (omega (arith, long, s.eight)) ∙ sym (number_front own more 2 2 (omega (arith, long, s.eight))) ∙ ap (λ l. number_at l 2 2) whole ∙ s.size in
    let read : head_at (own ++ other) ≡ Ok (kind, size) = head_from (own ++ other) kind size is_kind is_size s.eight (omega (arith, long, length-append own other)) s.known s.of_kind in
    let action : action_of kind (own ++ other) ≡ action_of kind bytes = action_front kind own other s.known within ∙ sym (action_front kind own more s.known within) ∙ ap (action_of kind) whole in
    let behind : drop size (own ++ other) ≡ other = ap (λ n. drop n (own ++ other)) (sym long) ∙ drop-append_seam own other in
    rw (read, action, behind) refl in
    let both : P x = subst P made (sym whole, again) in
    (own, both.0, both.1)

head_wrong : (bytes : List ℕ) (fault : WireFault) → action_at bytes ≡ Err fault → head_at bytes ≡ Err fault
unfolding action_at
head_wrong bytes fault e =
    elim (bind_err (head_at bytes) (λ h. Ok (action_of h.0 bytes, drop h.1 bytes)) fault e) [ inl wrong ↦ wrong | inr right ↦ absurd (let h = right.2 in cc) ]

refused_first : (bytes : List ℕ) (fault : WireFault) → 1 ≤ length bytes → head_at bytes ≡ Err fault → read_all bytes ≡ Err fault
unfolding actions_at action_at
refused_first [] fault some e = absurd (omega arith)
refused_first (b ∷ bytes) fault some e = rw e refl

-- one more action that is right in front
first_behind : (bytes : List ℕ) (x : Action × List ℕ) (fault : WireFault) → action_at bytes ≡ Ok x → IsFirstFault x.1 fault → IsFirstFault bytes fault
first_behind bytes x fault e f =
    let own = own_bytes bytes x e in
    let right = reads_on (own.0 ++ f.front) (x.0, f.front) (own.2 f.front) ∙ ap (λ (r : Result (List Action) WireFault). r >>= λ others. Ok (x.0 ∷ others)) f.right in
    record { front = own.0 ++ f.front; actions = x.0 ∷ f.actions; rest = f.rest; splits = own.1 ∙ ap (λ l. own.0 ++ l) f.splits ∙ sym (append_assoc own.0 f.front f.rest); right = right; more = f.more; wrong = f.wrong }

found : (n : ℕ) (bytes : List ℕ) (fault : WireFault) → length bytes ≤ n → actions_at n bytes ≡ Err fault → IsFirstFault bytes fault
unfolding actions_at
found n [] fault le e = absurd cc
found zero (b ∷ bytes) fault le e = absurd (omega arith)
found (suc n) (b ∷ bytes) fault le e =
    let later : (x : Action × List ℕ) → action_at (b ∷ bytes) ≡ Ok x → (actions_at n x.1 >>= λ others. Ok (x.0 ∷ others)) ≡ Err fault → IsFirstFault (b ∷ bytes) fault = λ x right on.
    let s = shorter (b ∷ bytes) x right in
    first_behind (b ∷ bytes) x fault right (found n x.1 fault (omega arith) (others_wrong (actions_at n x.1) x.0 fault on)) in
    elim (bind_err (action_at (b ∷ bytes)) (λ x. actions_at n x.1 >>= λ others. Ok (x.0 ∷ others)) fault e) [
      | inl wrong ↦ record { front = []; actions = []; rest = b ∷ bytes; splits = refl; right = refl; more = omega arith; wrong = head_wrong (b ∷ bytes) fault wrong }
      | inr right ↦ later right.0 right.1 right.2
    ]

refused_behind : (n : ℕ) (front rest : List ℕ) (actions : List Action) (fault : WireFault) → length front ≤ n → actions_at n front ≡ Ok actions → read_all rest ≡ Err fault → read_all (front ++ rest) ≡ Err fault
unfolding actions_at
refused_behind n [] rest actions fault le e wrong = wrong
refused_behind zero (b ∷ front) rest actions fault le e wrong = absurd (omega arith)
refused_behind (suc n) (b ∷ front) rest actions fault le e wrong =
    let first = bind_ok (action_at (b ∷ front)) (λ x. actions_at n x.1 >>= λ others. Ok (x.0 ∷ others)) actions e in
    let x = first.0 in
    let others = bind_ok (actions_at n x.1) (λ others. Ok (x.0 ∷ others)) actions first.2 in
    let s = shorter (b ∷ front) x first.1 in
    let own = own_bytes (b ∷ front) x first.1 in
    let later = refused_behind n x.1 rest others.0 fault (omega arith) others.1 wrong in
    let split : (b ∷ front) ++ rest ≡ own.0 ++ (x.1 ++ rest) = ap (λ l. l ++ rest) own.1 ∙ append_assoc own.0 x.1 rest in
    ap read_all split ∙ reads_on (own.0 ++ (x.1 ++ rest)) (x.0, x.1 ++ rest) (own.2 (x.1 ++ rest)) ∙ ap (λ (r : Result (List Action) WireFault). r >>= λ others. Ok (x.0 ∷ others)) later

pub refused_iff : (bytes : List ℕ) (fault : WireFault) → (read_all bytes ≡ Err fault) ↔ IsFirstFault bytes fault
refused_iff bytes fault = (
  found (length bytes) bytes fault (omega arith),
  λ f. ap read_all f.splits ∙ refused_behind (length f.front) f.front f.rest f.actions fault (omega arith) f.right (refused_first f.rest fault f.more f.wrong),
)

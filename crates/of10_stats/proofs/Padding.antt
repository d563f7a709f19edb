-- Padding and flags say nothing.
use Rattle.std.proofs.Common.{◌≡◌, ℕ, ◌≤◌, List, take, slice_index, refl, sym, ap, ◌∙◌, arith}
use Rattle.std.proofs.lemmas.List.{get_or-drop}
use Rattle.of10_model.specs.Normal.{number_at}
use Rattle.of10_model.specs.Padding.{AlikeBut}
use Rattle.of10_model.proofs.Padding.{piece_before, number_before, byte_before, rest_behind, number_behind}
use Rattle.of10_stats.specs.Requests.{request_of, read_request}

-- requests of one type and length are read alike if what they ask is
same_asked : (from to : ℕ) (a b : List ℕ) (kind : ℕ) → AlikeBut from to a b → 10 ≤ from → number_at a 8 2 ≡ kind → request_of kind a ≡ request_of kind b → read_request a ≡ read_request b
unfolding read_request
same_asked from to a b kind h le is same =
    let also : number_at b 8 2 ≡ kind = sym (number_before from to a b h 8 2 le) ∙ is in
    rw (h.size, is, also, same) refl

same_flow : (a b : List ℕ) → AlikeBut 53 54 a b → request_of 1 a ≡ request_of 1 b
unfolding request_of
same_flow a b h = rw (piece_before 53 54 a b h 12 40 (omega arith), byte_before 53 54 a b h 52 (omega arith), number_behind 53 54 a b h 0 2) refl

same_aggregate : (a b : List ℕ) → AlikeBut 53 54 a b → request_of 2 a ≡ request_of 2 b
unfolding request_of
same_aggregate a b h = rw (piece_before 53 54 a b h 12 40 (omega arith), byte_before 53 54 a b h 52 (omega arith), number_behind 53 54 a b h 0 2) refl

same_port : (a b : List ℕ) → AlikeBut 14 20 a b → request_of 4 a ≡ request_of 4 b
unfolding request_of
same_port a b h = rw (number_before 14 20 a b h 12 2 (omega arith)) refl

same_queue : (a b : List ℕ) → AlikeBut 14 16 a b → request_of 5 a ≡ request_of 5 b
unfolding request_of
same_queue a b h = rw (number_before 14 16 a b h 12 2 (omega arith), number_behind 14 16 a b h 0 4) refl

pub flow_alike : (a b : List ℕ) → number_at a 8 2 ≡ 1 → AlikeBut 53 54 a b → read_request a ≡ read_request b
flow_alike a b is h = same_asked 53 54 a b 1 h (omega arith) is (same_flow a b h)

pub aggregate_alike : (a b : List ℕ) → number_at a 8 2 ≡ 2 → AlikeBut 53 54 a b → read_request a ≡ read_request b
aggregate_alike a b is h = same_asked 53 54 a b 2 h (omega arith) is (same_aggregate a b h)

pub port_alike : (a b : List ℕ) → number_at a 8 2 ≡ 4 → AlikeBut 14 20 a b → read_request a ≡ read_request b
port_alike a b is h = same_asked 14 20 a b 4 h (omega arith) is (same_port a b h)

pub queue_alike : (a b : List ℕ) → number_at a 8 2 ≡ 5 → AlikeBut 14 16 a b → read_request a ≡ read_request b
queue_alike a b is h = same_asked 14 16 a b 5 h (omega arith) is (same_queue a b h)

-- ---- flags

table_behind : (a b : List ℕ) → AlikeBut 10 12 a b → slice_index a 52 ≡ slice_index b 52
table_behind a b h = sym (get_or-drop 12 a 40 0) ∙ ap (λ (rest : List ℕ). slice_index rest 40) h.rest ∙ get_or-drop 12 b 40 0

same_behind : (kind : ℕ) (a b : List ℕ) → AlikeBut 10 12 a b → request_of kind a ≡ request_of kind b
unfolding request_of
same_behind kind a b h =
    rw (
      number_behind 10 12 a b h 0 2,
      number_behind 10 12 a b h 4 4,
      number_behind 10 12 a b h 42 2,
      table_behind a b h,
      ap (take 40) (rest_behind 10 12 a b h 0),
    ) refl

pub flags_alike : (a b : List ℕ) → AlikeBut 10 12 a b → read_request a ≡ read_request b
flags_alike a b h = same_asked 10 12 a b (number_at a 8 2) h (omega arith) refl (same_behind (number_at a 8 2) a b h)

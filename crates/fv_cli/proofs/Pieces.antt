-- Lines that are put piece by piece.
use Rattle.std.proofs.Common.{◌≡◌, ℕ, zero, suc, ◌+◌, ◌<◌, ◌++◌, List, [], ◌∷◌, length, take, drop, get_or, Option, refl, sym, ap, ◌∙◌, append_assoc, add-one, arith}
use Rattle.std.proofs.lemmas.Grind.{common_steps}
use Rattle.fv_base.specs.Told.{appended, IsBeginning}
use Rattle.fv_cli.specs.declared.lines.Piece.{Piece}
use Rattle.fv_cli.specs.Lines.{piece_text, whole_text}
use Rattle.fv_report.proofs.Writing.{appended_twice}

-- the whole is what stands before a piece, the piece, and what stands behind it
pub whole-split : (pieces : List Piece) (i : ℕ) (other : Piece) → i < length pieces → whole_text pieces ≡ whole_text (take i pieces) ++ (piece_text (get_or pieces i other) ++ whole_text (drop (suc i) pieces))
whole-split [] i other h = absurd (omega arith)
whole-split (piece ∷ rest) zero other h = refl
whole-split (piece ∷ rest) (suc i) other h =
    ap (λ text. piece_text piece ++ text) (whole-split rest i other (omega arith))
    ∙ sym (append_assoc (piece_text piece) (whole_text (take i rest)) (piece_text (get_or rest i other) ++ whole_text (drop (suc i) rest)))

-- one piece more
pub whole-more : (pieces : List Piece) (i : ℕ) (other : Piece) → i < length pieces → whole_text (take (suc i) pieces) ≡ whole_text (take i pieces) ++ piece_text (get_or pieces i other)
whole-more [] i other h = absurd (omega arith)
whole-more (piece ∷ rest) zero other h = grind (arith, common_steps)
whole-more (piece ∷ rest) (suc i) other h =
    ap (λ text. piece_text piece ++ text) (whole-more rest i other (omega arith))
    ∙ sym (append_assoc (piece_text piece) (whole_text (take i rest)) (piece_text (get_or rest i other)))

-- five pieces one by one
pub five-whole : (pieces : List Piece) (other : Piece) (rest : List ℕ) → length pieces ≡ 5 →
    piece_text (get_or pieces 0 other) ++ (piece_text (get_or pieces 1 other) ++ (piece_text (get_or pieces 2 other) ++ (piece_text (get_or pieces 3 other) ++ (piece_text (get_or pieces 4 other) ++ rest))))
    ≡ whole_text pieces ++ rest
five-whole (a ∷ b ∷ c ∷ d ∷ e ∷ []) other rest h = grind (arith, common_steps)
five-whole [] other rest h = absurd cc
five-whole (a ∷ []) other rest h = absurd cc
five-whole (a ∷ b ∷ []) other rest h = absurd cc
five-whole (a ∷ b ∷ c ∷ []) other rest h = absurd cc
five-whole (a ∷ b ∷ c ∷ d ∷ []) other rest h = absurd cc
five-whole (a ∷ b ∷ c ∷ d ∷ e ∷ f ∷ more) other rest h = absurd (omega arith)

-- one piece more was put
pub piece-put : (pieces : List Piece) (i : ℕ) (other : Piece) (old before after : Option (List ℕ)) → i < length pieces →
    before ≡ appended old (whole_text (take i pieces)) → after ≡ appended before (piece_text (get_or pieces i other)) → after ≡ appended old (whole_text (take (i + 1) pieces))
piece-put pieces i other old before after h so-far now =
    now
    ∙ ap (λ told. appended told (piece_text (get_or pieces i other))) so-far
    ∙ appended_twice old (whole_text (take i pieces)) (piece_text (get_or pieces i other))
    ∙ ap (λ text. appended old text) (sym (whole-more pieces i other h))
    ∙ ap (λ n. appended old (whole_text (take n pieces))) (sym (add-one i))

-- the first bytes of a piece were put
pub part-put : (pieces : List Piece) (i : ℕ) (other : Piece) (old before after : Option (List ℕ)) (put : List ℕ) → i < length pieces →
    before ≡ appended old (whole_text (take i pieces)) → IsBeginning put (piece_text (get_or pieces i other)) → after ≡ appended before put →
    (all : List ℕ) × IsBeginning all (whole_text pieces) × (after ≡ appended old all)
part-put pieces i other old before after put h so-far (rest, is) now =
    let front = whole_text (take i pieces) in
    let behind = whole_text (drop (suc i) pieces) in
    let split : whole_text pieces ≡ front ++ ((put ++ rest) ++ behind) = whole-split pieces i other h ∙ ap (λ text. front ++ (text ++ behind)) (sym is) in
    let grouped : (front ++ put) ++ (rest ++ behind) ≡ front ++ ((put ++ rest) ++ behind) = grind (arith, common_steps) in
    (front ++ put, (rest ++ behind, grouped ∙ sym split), now ∙ ap (λ told. appended told put) so-far ∙ appended_twice old front put)

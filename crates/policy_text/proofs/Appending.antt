-- Entries that are written one after the other.
use Rattle.std.proofs.Common.{◌≡◌, ℕ, List, [], ◌∷◌, ◌++◌, sym, ◌∙◌, append_assoc}
use Rattle.std.proofs.lemmas.List.{append-nil}
use Rattle.policy_text.specs.Printing.{Entry, entry_text, entries_text}

-- the entries after what was written before
abbrev pub after : List ℕ → List Entry → List ℕ
after front [] = front
after front (entry ∷ rest) = after (front ++ entry_text entry) rest

pub after_all : (front : List ℕ) (entries : List Entry) → after front entries ≡ front ++ entries_text entries
after_all front [] = sym (append-nil front)
after_all front (entry ∷ rest) = after_all (front ++ entry_text entry) rest ∙ append_assoc front (entry_text entry) (entries_text rest)

pub four_parts : (front a b c d : List ℕ) → (((front ++ a) ++ b) ++ c) ++ d ≡ front ++ (a ++ (b ++ (c ++ d)))
four_parts front a b c d = append_assoc ((front ++ a) ++ b) c d ∙ append_assoc (front ++ a) b (c ++ d) ∙ append_assoc front a (b ++ (c ++ d))

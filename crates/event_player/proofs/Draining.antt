-- Messages that are taken and reported one after another.
use Rattle.std.proofs.Common.{◌≡◌, ℕ, List, [], ◌∷◌, ◌++◌, map, drop, refl, sym, ap, ◌∙◌, append_assoc, Some, None, slice_get, subst, Result, Ok, Err}
use Rattle.std.specs.Result.{IsErrAnd}
use Rattle.std.proofs.lemmas.List.{append-nil}
use Rattle.std.proofs.lemmas.Option.{none-some, same_Some}
use Rattle.event_player.specs.declared.fault.ReportFault.{ReportFault}
use Rattle.event_player.specs.declared.player.Player.{Player}
use Rattle.desk_words.specs.Reports.{Line}
use Rattle.event_player.specs.Telling.{Outcome}
use Rattle.event_player.specs.Players.{Scene, IsPlaying, HasTold}
use Rattle.event_player.proofs.Players.{told_nothing, told_second, told_first, told_as, told_so}

-- of the messages that waited these are left, and the lines of the others are reported
pub record Drained {T : Type 0} (Tells : T → Line → Outcome → T → Type 0) (scene : Scene) (IsLeft : List (List ℕ) → Type 0) (line : List ℕ → Line) (messages : List (List ℕ)) (before now : Player T) : Type 0 where
  pub left : List (List ℕ)
  pub holds : IsLeft left
  pub done : List Line
  pub told : HasTold {A = Unit {0}} Tells scene (Unit {0}) (Ok tt) done before now
  pub whole : done ++ map line left ≡ map line messages

pub drained_first : {T : Type 0} (Tells : T → Line → Outcome → T → Type 0) (scene : Scene) (IsLeft : List (List ℕ) → Type 0) (line : List ℕ → Line) (messages : List (List ℕ)) (before : Player T) → IsPlaying scene before → IsLeft messages → Drained Tells scene IsLeft line messages before before
drained_first Tells scene IsLeft line messages before is holds = record { left = messages; holds = holds; done = []; told = told_nothing Tells scene tt before is tt; whole = refl }

split : (line : List ℕ → Line) (messages left : List (List ℕ)) (done : List Line) (message : List ℕ) → Some message ≡ slice_get left 0 → done ++ map line left ≡ map line messages
    → (done ++ line message ∷ []) ++ map line (drop 1 left) ≡ map line messages
split line messages [] done message is whole = absurd (none-some message (sym is))
split line messages (first ∷ others) done message is whole = append_assoc done (line message ∷ []) (map line others) ∙ ap (λ m. done ++ (line m ∷ map line others)) (same_Some message first is) ∙ whole

-- one line more
pub drained_more : {T : Type 0} (Tells : T → Line → Outcome → T → Type 0) (scene : Scene) (IsLeft Then : List (List ℕ) → Type 0) (line : List ℕ → Line) (messages : List (List ℕ)) (before now later : Player T) (message : List ℕ) (value : Unit {0}) (d : Drained Tells scene IsLeft line messages before now)
    → Some message ≡ slice_get d.left 0 → Then (drop 1 d.left) → HasTold {A = Unit {0}} Tells scene (Unit {0}) (Ok value) (line message ∷ []) now later → Drained Tells scene Then line messages before later
drained_more Tells scene IsLeft Then line messages before now later message value d is next told = record {
  left = drop 1 d.left;
  holds = next;
  done = d.done ++ line message ∷ [];
  told = told_second Tells scene scene tt (Ok tt) d.done (line message ∷ []) before now later d.told told;
  whole = split line messages d.left d.done message is d.whole;
}

-- a piece of the next line
pub drained_part : {A T More : Type 0} (Tells : T → Line → Outcome → T → Type 0) (scene : Scene) (IsLeft : List (List ℕ) → Type 0) (line : List ℕ → Line) (messages : List (List ℕ)) (before now later : Player T) (message : List ℕ) (fault : ReportFault) (result : Result A ReportFault) (d : Drained Tells scene IsLeft line messages before now)
    → Some message ≡ slice_get d.left 0 → IsErrAnd result (λ e. e ≡ fault) → HasTold {A = Unit {0}} Tells scene (Unit {0}) (Err fault) (line message ∷ []) now later → HasTold {A = A} Tells scene More result (map line messages) before later
drained_part {A} {T} {More} Tells scene IsLeft line messages before now later message fault result d is same broken =
    let one = line message ∷ [] in
    let others = map line (drop 1 d.left) in
    told_as Tells scene result (d.done ++ (one ++ others)) (map line messages) before later (sym (append_assoc d.done one others) ∙ split line messages d.left d.done message is d.whole)
    (told_second Tells scene scene tt result d.done (one ++ others) before now later d.told (told_first {More = More} Tells scene scene fault result one others now later same broken))

nothing_left : (left : List (List ℕ)) → None ≡ slice_get left 0 → left ≡ []
nothing_left [] is = refl
nothing_left (first ∷ others) is = absurd (none-some first is)

-- all lines
pub drained_all : {T : Type 0} (Tells : T → Line → Outcome → T → Type 0) (scene : Scene) (IsLeft Then : List (List ℕ) → Type 0) (line : List ℕ → Line) (messages : List (List ℕ)) (before now : Player T) (value : Unit {0}) (d : Drained Tells scene IsLeft line messages before now)
    → None ≡ slice_get d.left 0 → Then (drop 1 d.left) → HasTold {A = Unit {0}} Tells scene (Then []) (Ok value) (map line messages) before now
drained_all Tells scene IsLeft Then line messages before now value d is next =
    let none = nothing_left d.left is in
    told_as Tells scene (Ok value) d.done (map line messages) before now (sym (append-nil d.done) ∙ ap (λ left. d.done ++ map line left) (sym none) ∙ d.whole)
    (told_so Tells scene (Ok value) d.done before now (λ _. subst (λ (k : List (List ℕ)). Then (drop 1 k)) none next) d.told)

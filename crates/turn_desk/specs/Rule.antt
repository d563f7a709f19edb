-- The rule of the lock: one history of turns, and what each seat knows of it. This proxy's own rules.
use Rattle.std.specs.Prelude.{◌≡◌, ◌≢◌, ℕ, suc, ◌+◌, ◌-◌, ◌*◌, ◌^◌, ◌<◌, ◌≤◌, ◌==◌, ◌&&◌, Bool, true, false, List, [], ◌∷◌, ◌++◌, length, MatchBool}
use Rattle.std.specs.declared.option.Option.{Option}
use Rattle.std.specs.declared.option.Option.TheVariants.{None, Some}
use mathlib.Core.Option.{some}
use lib.ListN.{get_elem?}
use Rattle.atomic_table.specs.Table.{State, Me, Step}
use Rattle.turn_desk.specs.declared.view.Entry.{Entry}
use Rattle.turn_desk.specs.declared.view.Stage.{Stage}
use Rattle.turn_desk.specs.declared.view.Stage.TheVariants.{Idle, Waits, Holds}
use Rattle.turn_desk.specs.declared.view.Member.{Member}
use Rattle.turn_desk.specs.Histories.{entry, NoneBy, StartsWith, GoesOn, longer, Runs}

-- the sum of f over the list
abbrev pub total : {V : Type 0} → (V → ℕ) → List V → ℕ
total f [] = 0
total f (v ∷ vs) = f v + total f vs

module _ {O : Type 0} where
  -- the seat waits or holds with this ticket
  abbrev pub HasTicket : Stage O → ℕ → Type 0
  HasTicket Idle t = ⊥
  HasTicket (Waits k) t = k ≡ t
  HasTicket (Holds k x) t = k ≡ t

  -- how many tickets the seat has
  abbrev pub tickets_of : Stage O → ℕ
  tickets_of Idle = 0
  tickets_of (Waits k) = 1
  tickets_of (Holds k x) = 1

  -- the seat has the turn
  abbrev pub IsHolder : Stage O → Type 0
  IsHolder Idle = ⊥
  IsHolder (Waits k) = ⊥
  IsHolder (Holds k x) = Unit {0}

  -- the seat has no ticket
  abbrev pub idle_stage : Stage O → Bool
  idle_stage Idle = true
  idle_stage (Waits t) = false
  idle_stage (Holds t x) = false

  -- a seat that holds no slot
  abbrev pub is_empty : List (ℕ × Option O) → Bool
  is_empty [] = true
  is_empty (x ∷ xs) = false

module _ {O P R : Type 0} where
  -- the calls that a seat has left; one that was joined to another has none
  abbrev pub lefts : Option (Member O P R) → ℕ
  lefts None = 0
  lefts (Some m) = m.left

  -- how many tickets a seat has; one that was joined to another has none
  abbrev pub tickets : Option (Member O P R) → ℕ
  tickets None = 0
  tickets (Some m) = tickets_of m.stage

  -- A ticket is for a turn to come. Who has the turn has the oldest ticket, has the object, and has seen the whole history.
  abbrev pub FitsStage : List (Entry P R) → O → ℕ → List (Entry P R) → Stage O → Type 0
  FitsStage log now drawn seen Idle = Unit {0}
  FitsStage log now drawn seen (Waits t) = (length log ≤ t) × (t < drawn)
  FitsStage log now drawn seen (Holds t x) = (t ≡ length log) × (t < drawn) × (x ≡ now) × (seen ≡ log)

  -- What one seat knows: the first object, and a beginning of the history, after which there is no entry of its number.
  -- Numbers that it may still give to others have no entry at all. What it had seen when it met another seat begins its
  -- list, and behind that is no entry of its number; what the other had seen begins it too.
  pub record Fits (first : O) (log : List (Entry P R)) (now : O) (drawn : ℕ) (m : Member O P R) : Type 0 where
    pub opening : m.first ≡ first
    pub later : List (Entry P R)
    pub whole : log ≡ m.seen ++ later
    pub others : NoneBy m.number later
    pub ahead : (i : ℕ) → NoneBy (m.number + suc i * m.stride) log
    pub gap : 0 < m.stride
    pub own : GoesOn m.number m.seen m.mine
    pub met : StartsWith m.seen m.other
    pub place : FitsStage log now drawn m.seen m.stage

  -- two seats never have one number, now or later, nor one ticket
  pub record Apart (a b : Member O P R) : Type 0 where
    pub numbers : (i j : ℕ) → a.number + i * a.stride ≢ b.number + j * b.stride
    pub turns : (t : ℕ) → HasTicket a.stage t → HasTicket b.stage t → ⊥

  -- The rule. There is one history, which leads from the first object to the one now. Word 0 counts the tickets drawn and
  -- word 1 the turns passed. The tickets drawn and the calls that all seats have left are together 2 ^ 63; the tickets drawn
  -- are the turns passed and the seats that have a ticket. While no seat has the turn, the slot has the object.
  pub record IsRuled (acts : O → P → R → O → Type 0) (first : O) (s : State (Option O) (Option (Member O P R))) : Type 0 where
    pub log : List (Entry P R)
    pub now : O
    pub drawn : ℕ
    pub runs : Runs acts first log now
    pub words : s.words ≡ drawn ∷ length log ∷ []
    pub calls : total lefts s.views + drawn ≡ 2 ^ 63
    pub waiting : drawn ≡ length log + total tickets s.views
    pub each : (k : ℕ) (m : Member O P R) → get_elem? s.views k ≡ some (Some m) → Fits first log now drawn m
    pub apart : (j k : ℕ) (a b : Member O P R) → get_elem? s.views j ≡ some (Some a) → get_elem? s.views k ≡ some (Some b) → j ≢ k → Apart a b
    pub home : ((k : ℕ) (m : Member O P R) → get_elem? s.views k ≡ some (Some m) → IsHolder m.stage → ⊥) → get_elem? s.homes 0 ≡ some (some (Some now))

  -- the first seat
  abbrev pub newcomer : O → Option (Member O P R)
  newcomer first = Some (record { first = first; number = 0; stride = 1; left = 2 ^ 63; stage = Idle; seen = []; mine = []; other = [] })

  -- a seat after it gave n calls, and every second of its numbers to come, to another
  abbrev pub left_of : ℕ → Member O P R → Member O P R
  left_of n m = record { first = m.first; number = m.number; stride = 2 * m.stride; left = m.left - n; stage = m.stage; seen = m.seen; mine = m.mine; other = m.other }

  -- the other seat
  abbrev pub right_of : ℕ → Member O P R → Member O P R
  right_of n m = record { first = m.first; number = m.number + m.stride; stride = 2 * m.stride; left = n; stage = Idle; seen = m.seen; mine = []; other = m.other }

  abbrev pub cut_left : ℕ → Option (Member O P R) → Option (Member O P R)
  cut_left n None = None
  cut_left n (Some m) = Some (left_of n m)

  abbrev pub cut_right : ℕ → Option (Member O P R) → Option (Member O P R)
  cut_right n None = None
  cut_right n (Some m) = Some (right_of n m)

  -- the first seat with the calls of both and the longer list; what each had seen is kept beside it
  abbrev pub both_of : Member O P R → Member O P R → Member O P R
  both_of a b =
      record {
        first = a.first;
        number = a.number;
        stride = a.stride;
        left = a.left + b.left;
        stage = a.stage;
        seen = longer a.seen b.seen;
        mine = a.seen;
        other = b.seen;
      }

  abbrev pub joined : Option (Member O P R) → Option (Member O P R) → Option (Member O P R)
  joined None w = None
  joined (Some a) None = Some a
  joined (Some a) (Some b) = Some (both_of a b)

  -- what the seat had seen when it met another begins its list, which went on without an entry of its own; what the
  -- other had seen begins it too; and the calls left and those that it has seen are within all calls
  abbrev pub Known : Option (Member O P R) → Type 0
  Known None = Unit {0}
  Known (Some m) = GoesOn m.number m.seen m.mine × StartsWith m.seen m.other × (m.left + length m.seen ≤ 2 ^ 63)

  -- a load shows this, and changes nothing
  abbrev pub Learned : Step (Option O) → Me (Option O) (Option (Member O P R)) → ℕ → Me (Option O) (Option (Member O P R)) → Type 0
  Learned s me found you = (you ≡ me) × Known me.0

  -- the seat has no ticket
  abbrev pub idle_of : Option (Member O P R) → Bool
  idle_of None = false
  idle_of (Some m) = idle_stage m.stage

  -- the seat of a call that ended: it has no ticket and holds no slot
  abbrev pub is_idle : Me (Option O) (Option (Member O P R)) → Bool
  is_idle me = idle_of me.0 && is_empty me.1

  -- the distance of the numbers that a seat may still give
  abbrev pub stride_of : Option (Member O P R) → ℕ
  stride_of None = 0
  stride_of (Some m) = m.stride

  -- the seat with so many calls left, at this stage and with this list
  abbrev pub staged : Member O P R → ℕ → Stage O → List (Entry P R) → Member O P R
  staged m left stage seen = record { first = m.first; number = m.number; stride = m.stride; left = left; stage = stage; seen = seen; mine = seen; other = m.other }

  -- a seat that drew this ticket has one call fewer left
  abbrev pub drawn_view : ℕ → Option (Member O P R) → Option (Member O P R)
  drawn_view t None = None
  drawn_view t (Some m) = Some (staged m (m.left - 1) (Waits t) m.seen)

  -- the number found is the ticket
  abbrev pub Drawn : Step (Option O) → Me (Option O) (Option (Member O P R)) → ℕ → Me (Option O) (Option (Member O P R)) → Type 0
  Drawn s me found you = (you ≡ (drawn_view found me.0, me.1)) × (found < 2 ^ 63)

  -- the seat with this ticket has the object, and the history that leads to it
  pub record HasTurn (acts : O → P → R → O → Type 0) (t : ℕ) (m : Member O P R) (you : Me (Option O) (Option (Member O P R))) : Type 0 where
    pub object : O
    pub log : List (Entry P R)
    pub between : List (Entry P R)
    pub view : you ≡ (Some (staged m m.left (Holds t object) log), (0, Some object) ∷ [])
    pub goes_on : log ≡ m.seen ++ between
    pub others : NoneBy m.number between
    pub legal : Runs acts m.first log object
    pub size : length log ≡ t

  -- what a look shows to who waits: it has the turn where it found its ticket, else nothing changed
  abbrev pub LookedAt : (O → P → R → O → Type 0) → Stage O → Member O P R → Me (Option O) (Option (Member O P R)) → ℕ → Me (Option O) (Option (Member O P R)) → Type 0
  LookedAt acts Idle m me found you = Unit {0}
  LookedAt acts (Waits t) m me found you = MatchBool (found == t) (HasTurn acts t m you) (you ≡ me)
  LookedAt acts (Holds t x) m me found you = Unit {0}

  abbrev pub LookedBy : (O → P → R → O → Type 0) → Option (Member O P R) → Me (Option O) (Option (Member O P R)) → ℕ → Me (Option O) (Option (Member O P R)) → Type 0
  LookedBy acts None me found you = Unit {0}
  LookedBy acts (Some m) me found you = LookedAt acts m.stage m me found you

  abbrev pub Looked : (O → P → R → O → Type 0) → Step (Option O) → Me (Option O) (Option (Member O P R)) → ℕ → Me (Option O) (Option (Member O P R)) → Type 0
  Looked acts s me found you = LookedBy acts me.0 me found you

  -- a seat that passed the turn has seen its own entry
  abbrev pub passed_view : P → R → Option (Member O P R) → Option (Member O P R)
  passed_view op reply None = None
  passed_view op reply (Some m) = Some (staged m m.left Idle (m.seen ++ entry m.number op reply ∷ []))

  -- what a pass shows, where the caller said what was asked and answered
  abbrev pub Passed : Option P → Option R → Step (Option O) → Me (Option O) (Option (Member O P R)) → ℕ → Me (Option O) (Option (Member O P R)) → Type 0
  Passed (Some op) (Some reply) s me found you = you ≡ (passed_view op reply me.0, [])
  Passed _ _ s me found you = Unit {0}

  -- the seat waits with this ticket
  abbrev pub WaitsWith : ℕ → Me (Option O) (Option (Member O P R)) → Type 0
  WaitsWith t me = (m : Member O P R) × (me ≡ (Some m, [])) × (m.stage ≡ Waits t)

  -- the seat has the turn of this ticket
  abbrev pub TakesTurn : (O → P → R → O → Type 0) → ℕ → Option (Member O P R) → Me (Option O) (Option (Member O P R)) → Type 0
  TakesTurn acts t None you = ⊥
  TakesTurn acts t (Some m) you = HasTurn acts t m you

  -- the seat has the turn, and what it will give back comes from this operation with this reply
  abbrev pub HoldsWith : (O → P → R → O → Type 0) → P → R → Me (Option O) (Option (Member O P R)) → Type 0
  HoldsWith acts op reply me = (m : Member O P R) × (t : ℕ) × (x : O) × (y : O) × (me ≡ (Some m, (0, Some y) ∷ [])) × (m.stage ≡ Holds t x) × acts x op reply y

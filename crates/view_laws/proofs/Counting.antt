-- Which timestamps count for a slice's rate.
use Rattle.std.proofs.Common.{◌≡◌, ◌≤◌, ◌↔◌, ◌&&◌, ℕ, Bool, true, false, IsTrue, if◌then◌else◌, List, [], ◌∷◌, max, refl, sym, ap, subst, ◌∙◌, arith}
use Rattle.rate_bucket.specs.Rates.{latest as greatest, Conforms, is_conforming, accepted, is_accepted}
use Rattle.rate_bucket.proofs.Levels.{conforms}
use Rattle.slice_words.specs.Messages.{is_question}
use Rattle.slice_words.specs.Items.{Settings, Item, Opened, Up, Down, Msg, Lost, Handed, Removed, Status, Fault, Barrier, Queues, Entry, Last, End, is_up, latest_moment}
use Rattle.slice_words.specs.Calls.{asks_rate, questions}
use Rattle.slice_words.specs.Answers.{answer, keeps_rate}
use Rattle.slice_words.specs.Standing.{past_of}
use Rattle.slice_words.proofs.Holding.{view_in-played}
use Rattle.view_laws.specs.Rates.{counted_moments}

-- the questions after one more item
questions-more : (s : Settings) (item : Item) (view : List Item)
    → questions (past_of s (item ∷ view)) ≡ (if asks_rate item view then latest_moment (item ∷ view) ∷ questions (past_of s view) else questions (past_of s view))
questions-more s item view =
    ap (λ (items : List Item). if asks_rate item items then latest_moment (item ∷ items) ∷ questions (past_of s view) else questions (past_of s view)) (view_in-played (answer s) view)

-- none has a later timestamp than the greatest of the messages
within_more : (asks : Bool) (t before : ℕ) (asked : List ℕ) → before ≤ t → greatest asked ≤ before → greatest (if asks then t ∷ asked else asked) ≤ t
within_more true t before asked later within = omega (arith, later, within)
within_more false t before asked later within = omega (arith, later, within)

latest_more : (item : Item) (view : List Item) → latest_moment view ≤ latest_moment (item ∷ view)
latest_more (Msg message moment) view = omega arith
latest_more Up view = omega arith
latest_more Down view = omega arith
latest_more (Opened features) view = omega arith
latest_more (Lost k) view = omega arith
latest_more (Handed packet) view = omega arith
latest_more (Removed entry) view = omega arith
latest_more (Status status) view = omega arith
latest_more (Fault x class code pair) view = omega arith
latest_more (Barrier x) view = omega arith
latest_more (Queues x body) view = omega arith
latest_more (Entry x kind bytes) view = omega arith
latest_more (Last x kind) view = omega arith
latest_more End view = omega arith

asked_within : (s : Settings) (view : List Item) → greatest (questions (past_of s view)) ≤ latest_moment view
asked_within s [] = omega arith
asked_within s (item ∷ view) =
    subst (λ (asked : List ℕ). greatest asked ≤ latest_moment (item ∷ view)) (sym (questions-more s item view))
    (within_more (asks_rate item view) (latest_moment (item ∷ view)) (latest_moment view) (questions (past_of s view)) (latest_more item view) (asked_within s view))

-- so each counts with its own timestamp
accepted_at : (rate burst t : ℕ) (asked moments : List ℕ) → greatest asked ≤ t → accepted rate burst asked ≡ moments → is_accepted rate burst asked t ≡ is_conforming rate burst moments t
unfolding is_accepted
accepted_at rate burst t asked moments within is =
    let own : max t (greatest asked) ≡ t = omega (arith, within) in
    rw (own, is) refl

accepted_more : (asks : Bool) (rate burst t : ℕ) (asked moments : List ℕ) → greatest asked ≤ t → accepted rate burst asked ≡ moments
    → accepted rate burst (if asks then t ∷ asked else asked) ≡ (if asks && is_accepted rate burst asked t then t ∷ moments else moments)
unfolding accepted is_accepted
accepted_more true rate burst t asked moments within is =
    let own : max t (greatest asked) ≡ t = omega (arith, within) in
    rw (own, is) refl
accepted_more false rate burst t asked moments within is = is

item_counts : (s : Settings) (item : Item) (view : List Item) → accepted s.rate s.burst (questions (past_of s view)) ≡ counted_moments s view
    → accepted s.rate s.burst (if asks_rate item view then latest_moment (item ∷ view) ∷ questions (past_of s view) else questions (past_of s view)) ≡ counted_moments s (item ∷ view)
item_counts s (Msg message moment) view is =
    accepted_more (is_up view && is_question message) s.rate s.burst (latest_moment (Msg message moment ∷ view)) (questions (past_of s view)) (counted_moments s view)
    (omega (arith, asked_within s view, latest_more (Msg message moment) view)) is
item_counts s Up view is = is
item_counts s Down view is = is
item_counts s (Opened features) view is = is
item_counts s (Lost k) view is = is
item_counts s (Handed packet) view is = is
item_counts s (Removed entry) view is = is
item_counts s (Status status) view is = is
item_counts s (Fault x class code pair) view is = is
item_counts s (Barrier x) view is = is
item_counts s (Queues x body) view is = is
item_counts s (Entry x kind bytes) view is = is
item_counts s (Last x kind) view is = is
item_counts s End view is = is

pub accepted-counted : (s : Settings) (view : List Item) → accepted s.rate s.burst (questions (past_of s view)) ≡ counted_moments s view
unfolding accepted
accepted-counted s [] = refl
accepted-counted s (item ∷ view) =
    ap (λ (asked : List ℕ). accepted s.rate s.burst asked) (questions-more s item view) ∙ item_counts s item view (accepted-counted s view)

pub keeps-conforms : (s : Settings) (view : List Item) (message : List ℕ) (moment : ℕ)
    → IsTrue (keeps_rate s view (past_of s view) moment) ↔ Conforms s.rate s.burst (counted_moments s view) (latest_moment (Msg message moment ∷ view))
keeps-conforms s view message moment =
    let t = latest_moment (Msg message moment ∷ view) in
    let same = accepted_at s.rate s.burst t (questions (past_of s view)) (counted_moments s view) (omega (arith, asked_within s view, latest_more (Msg message moment) view)) (accepted-counted s view) in
    let test = conforms s.rate s.burst (counted_moments s view) t in
    (λ keeps. test.0 (sym same ∙ keeps), λ fits. same ∙ test.1 fits)

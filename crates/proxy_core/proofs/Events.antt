-- A desk after an event of the switch's connection, and before the opening after one of a slice's.
use Rattle.std.proofs.Common.{◌≡◌, ℕ, ◌&&◌, ◌||◌, not, Bool, true, false, if◌then◌else◌, List, [], ◌∷◌, refl, ap, ap₂, subst, sym, ◌∙◌, true≢false, Option, Some, None}
use Rattle.std.proofs.lemmas.Option.{none-some}
use Rattle.flowspace.specs.Policies.{PolicyView}
use Rattle.outbox.specs.Queues.{Queue}
use Rattle.slice_words.specs.Items.{End, is_up}
use Rattle.desk_words.specs.declared.event.Event.{Event}
use Rattle.desk_words.specs.declared.event.Event.TheVariants.{SwitchUp, SwitchMsg, SwitchDown, SliceUp, SliceMsg, SliceDown}
use Rattle.desk_words.specs.declared.event.Timed.{Timed}
use Rattle.desk_words.specs.declared.phase.Phase.{Phase}
use Rattle.desk_words.specs.declared.phase.Phase.TheVariants.{Fresh, Begun, Opened, Gone}
use Rattle.desk_words.specs.Openings.{phase_after, opening_with, opening_after, known_after, KnownSwitch, switch_after}
use Rattle.desk_words.specs.Histories.{is_slot, SliceSide, is_open}
use Rattle.desk_words.specs.Sent.{greeting, lane_in, put_with}
use Rattle.desk_words.specs.Verdicts.{is_fresh, is_ended, is_before, is_switch_up, is_down, is_of_policy, is_connected, is_closing}
use Rattle.desk_words.specs.Operations.{lane_limit}
use Rattle.desk_words.proofs.Erasing.{slices_switch}
use Rattle.proxy_core.specs.declared.desk.Session.{Session}
use Rattle.proxy_core.specs.declared.desk.Desk.{Desk}
use Rattle.proxy_core.specs.Slots.{HasMore}
use Rattle.proxy_core.specs.Desks.{Opens, Body, Coherent, sides_after, up_after, queues_after, lane_after, closes_now, Acts, Ends, is_begun, is_begun_with}
use Rattle.of10_model.proofs.Results.{either_none}
use Rattle.proxy_core.proofs.Standing.{items_opened}
use Rattle.proxy_core.proofs.Acting.{body_after, is_opened, still_none, session_passes, session_ends, lane_is, lane_stays}

-- ---- what no message of the switch brings

nothing_told : (phase : Phase) (event : Event) → opening_with Begun event ≡ None → opening_after phase None event ≡ None
nothing_told Fresh event none = refl
nothing_told Begun event none = none
nothing_told Opened event none = refl
nothing_told Gone event none = refl

ports_stay : (phase : Phase) (known : List (List ℕ)) (event : Event) → known_after Begun known event ≡ known → known_after Opened known event ≡ known → known_after phase known event ≡ known
ports_stay Fresh known event begun opened = refl
ports_stay Begun known event begun opened = begun
ports_stay Opened known event begun opened = opened
ports_stay Gone known event begun opened = refl

-- ---- the switch connects

-- its connection goes on, it is greeted, and nothing is closed
comes_up : (p : PolicyView) (up : ℕ → Bool) (f : ℕ → List (List ℕ)) (phase : Phase) → is_ended phase ≡ false
    → ((not (is_ended phase) && is_ended (phase_after phase SwitchUp)) ≡ false) × (lane_in f phase SwitchUp ≡ greeting) × (is_closing p phase up (phase_after phase SwitchUp) SwitchUp ≡ false)
comes_up p up f Fresh on = (refl, refl, refl)
comes_up p up f Begun on = (refl, refl, refl)
comes_up p up f Opened on = (refl, refl, refl)
comes_up p up f Gone on = absurd (true≢false on)

opens_up : (p : PolicyView) (switch : KnownSwitch) (sides : ℕ → SliceSide) (qs : ℕ → Queue) (moment : ℕ) (session : Option Session) → Coherent p switch sides → is_ended switch.phase ≡ false → Opens p switch sides qs session
    → Opens p (switch_after switch SwitchUp) (sides_after p switch sides (record { event = SwitchUp; moment = moment })) (queues_after p switch sides qs (record { event = SwitchUp; moment = moment })) session
opens_up p switch sides qs moment None fit on opens = still_none p switch sides qs (record { event = SwitchUp; moment = moment }) fit opens (nothing_told switch.phase SwitchUp refl)
opens_up p switch sides qs moment (Some session) fit on stands =
    session_passes p switch sides qs (record { event = SwitchUp; moment = moment }) session stands (ports_stay switch.phase switch.known SwitchUp refl refl)
    (λ slot. items_opened p slot switch (sides slot) (record { event = SwitchUp; moment = moment }) (is_opened p switch sides qs session fit stands on) ∙ either_none (is_slot p slot) [] refl)
    (λ slot. refl)

pub greeted : (old new : Desk) (moment : ℕ) → new.policy ≡ old.policy → new.phase ≡ phase_after old.phase SwitchUp → HasMore greeting old.lane new.lane → new.session ≡ old.session
    → Acts old (record { event = SwitchUp; moment = moment }) true new
greeted old new moment policy phase more session p switch sides qs ql fit b on =
    let timed : Timed = record { event = SwitchUp; moment = moment } in
    let up = comes_up p (up_after p switch sides timed) (λ slot. put_with p slot switch (sides slot) timed) switch.phase on in
    record {
      body = body_after p switch sides qs ql timed old new b policy (phase ∙ ap (λ (k : Phase). phase_after k SwitchUp) b.phase)
          (lane_is p switch sides ql timed false greeting new.lane up.0 up.1 (more lane_limit ql b.lane))
          (subst (λ (o : Option Session). Opens p (switch_after switch SwitchUp) (sides_after p switch sides timed) (queues_after p switch sides qs timed) o) (sym session)
          (opens_up p switch sides qs moment old.session fit on b.opens));
      goes_on = sym (ap not up.2);
    }

-- ---- the switch ends

-- its connection has ended, nothing is sent, and nothing is closed
goes_down : (p : PolicyView) (up : ℕ → Bool) (f : ℕ → List (List ℕ)) (phase : Phase) → is_ended phase ≡ false → (phase ≡ Fresh → ⊥)
    → (phase_after phase SwitchDown ≡ Gone) × (lane_in f phase SwitchDown ≡ []) × (is_closing p phase up (phase_after phase SwitchDown) SwitchDown ≡ false)
goes_down p up f Fresh on far = absurd (far refl)
goes_down p up f Begun on far = (refl, refl, refl)
goes_down p up f Opened on far = (refl, refl, refl)
goes_down p up f Gone on far = absurd (true≢false on)

opens_down : (p : PolicyView) (switch : KnownSwitch) (sides : ℕ → SliceSide) (qs : ℕ → Queue) (moment : ℕ) (session : Option Session) → Coherent p switch sides → is_ended switch.phase ≡ false → Opens p switch sides qs session
    → Opens p (switch_after switch SwitchDown) (sides_after p switch sides (record { event = SwitchDown; moment = moment })) (queues_after p switch sides qs (record { event = SwitchDown; moment = moment })) session
opens_down p switch sides qs moment None fit on opens = still_none p switch sides qs (record { event = SwitchDown; moment = moment }) fit opens (nothing_told switch.phase SwitchDown refl)
opens_down p switch sides qs moment (Some session) fit on stands =
    session_ends p switch sides qs (record { event = SwitchDown; moment = moment }) session stands (ports_stay switch.phase switch.known SwitchDown refl refl)
    (λ slot here. items_opened p slot switch (sides slot) (record { event = SwitchDown; moment = moment }) (is_opened p switch sides qs session fit stands on) ∙ ap (λ (b : Bool). if b then End ∷ [] else []) here)
    (λ slot. refl)

pub ended : (old new : Desk) (moment : ℕ) → Ends old new → (old.phase ≡ Fresh → ⊥) → Acts old (record { event = SwitchDown; moment = moment }) true new
ended old new moment ends far p switch sides qs ql fit b on =
    let timed : Timed = record { event = SwitchDown; moment = moment } in
    let down = goes_down p (up_after p switch sides timed) (λ slot. put_with p slot switch (sides slot) timed) switch.phase on (λ e. far (b.phase ∙ e)) in
    record {
      body = body_after p switch sides qs ql timed old new b ends.same_policy (ends.phase ∙ sym down.0)
          (lane_is p switch sides ql timed true [] new.lane (ap₂ (λ (was now : Bool). not was && now) on (ap is_ended down.0)) down.1 (ends.lane lane_limit ql b.lane))
          (subst (λ (o : Option Session). Opens p (switch_after switch SwitchDown) (sides_after p switch sides timed) (queues_after p switch sides qs timed) o) (sym ends.session)
          (opens_down p switch sides qs moment old.session fit on b.opens));
      goes_on = sym (ap not down.2);
    }

-- ---- nothing changes

not_both : (b : Bool) → (not b && b) ≡ false
not_both true = refl
not_both false = refl

no_session : (p : PolicyView) (switch : KnownSwitch) (sides : ℕ → SliceSide) (qs : ℕ → Queue) (session : Option Session) → Coherent p switch sides → Opens p switch sides qs session → is_before switch.phase ≡ true → session ≡ None
no_session p switch sides qs None fit opens before = refl
no_session p switch sides qs (Some session) fit stands before = absurd (none-some session.features (sym (fit.before_untold before) ∙ stands.told))

idle : (p : PolicyView) (switch : KnownSwitch) (sides : ℕ → SliceSide) (qs : ℕ → Queue) (ql : Queue) (timed : Timed) (desk : Desk) → Coherent p switch sides → Body p switch sides qs ql desk
    → is_before switch.phase ≡ true → phase_after switch.phase timed.event ≡ switch.phase → opening_after switch.phase None timed.event ≡ None
    → lane_in (λ slot. put_with p slot switch (sides slot) timed) switch.phase timed.event ≡ []
    → Body p (switch_after switch timed.event) (sides_after p switch sides timed) (queues_after p switch sides qs timed) (lane_after p switch sides ql timed) desk
idle p switch sides qs ql timed desk fit b before stays none silent =
    let empty = no_session p switch sides qs desk.session fit b.opens before in
    body_after p switch sides qs ql timed desk desk b refl (b.phase ∙ sym stays)
    (lane_stays p switch sides ql timed desk.lane b.lane (ap (λ (k : Phase). not (is_ended switch.phase) && is_ended k) stays ∙ not_both (is_ended switch.phase)) silent)
    (subst (λ (o : Option Session). Opens p (switch_after switch timed.event) (sides_after p switch sides timed) (queues_after p switch sides qs timed) o) (sym empty)
    (still_none p switch sides qs timed fit (subst (λ (o : Option Session). Opens p switch sides qs o) empty b.opens) none))

-- all but its connection leaves a switch as it is that hasn't connected, and it is sent nothing
fresh_stays : (f : ℕ → List (List ℕ)) (event : Event) → is_switch_up event ≡ false → (phase_after Fresh event ≡ Fresh) × (lane_in f Fresh event ≡ [])
fresh_stays f SwitchUp is = absurd (true≢false is)
fresh_stays f (SwitchMsg message) is = (refl, refl)
fresh_stays f SwitchDown is = (refl, refl)
fresh_stays f (SliceUp slot) is = (refl, refl)
fresh_stays f (SliceMsg slot message) is = (refl, refl)
fresh_stays f (SliceDown slot) is = (refl, refl)

-- a switch that hasn't connected
pub fresh_idle : (desk : Desk) (event : Event) (moment : ℕ) → desk.phase ≡ Fresh → is_switch_up event ≡ false → Acts desk (record { event = event; moment = moment }) false desk
fresh_idle desk event moment is other p switch sides qs ql fit b on =
    let timed : Timed = record { event = event; moment = moment } in
    let fresh : switch.phase ≡ Fresh = sym b.phase ∙ is in
    record {
      body = idle p switch sides qs ql timed desk fit b (ap is_before fresh) (ap (λ (k : Phase). phase_after k event) fresh ∙ (fresh_stays (λ slot. put_with p slot switch (sides slot) timed) event other).0 ∙ sym fresh)
          (ap (λ (k : Phase). opening_after k None event) fresh)
          (ap (λ (k : Phase). lane_in (λ slot. put_with p slot switch (sides slot) timed) k event) fresh ∙ (fresh_stays (λ slot. put_with p slot switch (sides slot) timed) event other).1);
      goes_on = sym (ap not (ap (λ (k : Phase). is_closing p k (up_after p switch sides timed) (phase_after switch.phase event) event) fresh
          ∙ ap (λ (is : Bool). not is || not (is_of_policy p event) || (not (is_down event) && not (is_connected (up_after p switch sides timed) (phase_after switch.phase event) event))) other));
    }

-- ---- events of slices before the opening

before_of : (phase : Phase) → is_ended phase ≡ false → (phase ≡ Opened → ⊥) → is_before phase ≡ true
before_of Fresh on far = refl
before_of Begun on far = refl
before_of Opened on far = absurd (far refl)
before_of Gone on far = absurd (true≢false on)

pub before_in : (p : PolicyView) (switch : KnownSwitch) (sides : ℕ → SliceSide) (qs : ℕ → Queue) → Coherent p switch sides → Opens p switch sides qs None → is_ended switch.phase ≡ false → is_before switch.phase ≡ true
before_in p switch sides qs fit opens on = before_of switch.phase on (λ opened. (let some = fit.open_told opened in absurd (none-some some.0 (sym opens.0 ∙ some.1))))

-- what holds in both phases before the opening
early : (P : Phase → Type 0) → P Fresh → P Begun → (phase : Phase) → is_before phase ≡ true → P phase
early P fresh begun Fresh before = fresh
early P fresh begun Begun before = begun
early P fresh begun Opened before = absurd (true≢false (sym before))
early P fresh begun Gone before = absurd (true≢false (sym before))

pub shut_before : (phase : Phase) → is_before phase ≡ true → is_open phase ≡ false
shut_before = early (λ phase. is_open phase ≡ false) refl refl

third : (a b up : Bool) → up ≡ false → (a || b || (not false && not up)) ≡ true
third true b up is = refl
third false true up is = refl
third false false up is = rw is refl

-- a slice isn't up after an event that leaves a phase before the opening
down_before : (p : PolicyView) (switch : KnownSwitch) (sides : ℕ → SliceSide) (timed : Timed) (slot : ℕ) → is_before switch.phase ≡ true → phase_after switch.phase timed.event ≡ switch.phase → up_after p switch sides timed slot ≡ false
down_before p switch sides timed slot before stays =
    ap (λ (b : Bool). b && is_up (sides_after p switch sides timed slot).sight.view) (ap is_open stays ∙ shut_before switch.phase before)

-- an event of a slice where there is no session
none_acts : (desk : Desk) (event : Event) (moment : ℕ) (go : Bool) → desk.session ≡ None → ((switch : KnownSwitch) → switch_after switch event ≡ switch)
    → ((f : ℕ → List (List ℕ)) (phase : Phase) → is_before phase ≡ true → lane_in f phase event ≡ [])
    → ((p : PolicyView) (switch : KnownSwitch) (sides : ℕ → SliceSide) → desk.phase ≡ switch.phase → desk.policy ≡ p → is_before switch.phase ≡ true → phase_after switch.phase event ≡ switch.phase
    → go ≡ not (closes_now p switch sides (record { event = event; moment = moment })))
    → Acts desk (record { event = event; moment = moment }) go desk
none_acts desk event moment go none still silent goes p switch sides qs ql fit b on =
    let timed : Timed = record { event = event; moment = moment } in
    let before = before_in p switch sides qs fit (subst (λ (o : Option Session). Opens p switch sides qs o) none b.opens) on in
    let stays : phase_after switch.phase event ≡ switch.phase = ap (λ (k : KnownSwitch). k.phase) (still switch) in
    record {
      body = idle p switch sides qs ql timed desk fit b before stays (ap (λ (k : KnownSwitch). k.features) (still (record switch { features = None }))) (silent (λ i. put_with p i switch (sides i) timed) switch.phase before);
      goes_on = goes p switch sides b.phase b.same_policy before stays;
    }

pub none_up : (desk : Desk) (slot moment : ℕ) → desk.session ≡ None → Acts desk (record { event = SliceUp slot; moment = moment }) false desk
none_up desk slot moment none =
    none_acts desk (SliceUp slot) moment false none (λ switch. slices_switch switch (SliceUp slot) refl) (λ f. early (λ phase. lane_in f phase (SliceUp slot) ≡ []) refl refl)
    (λ p switch sides same_phase same_policy before stays.
    let timed : Timed = record { event = SliceUp slot; moment = moment } in
    sym (ap not (third (is_fresh switch.phase && true) (not (is_slot p slot)) (up_after p switch sides timed slot) (down_before p switch sides timed slot before stays))))

pub none_msg : (desk : Desk) (slot moment : ℕ) (message : List ℕ) → desk.session ≡ None → Acts desk (record { event = SliceMsg slot message; moment = moment }) false desk
none_msg desk slot moment message none =
    none_acts desk (SliceMsg slot message) moment false none (λ switch. slices_switch switch (SliceMsg slot message) refl) (λ f. early (λ phase. lane_in f phase (SliceMsg slot message) ≡ []) refl refl)
    (λ p switch sides same_phase same_policy before stays.
    let timed : Timed = record { event = SliceMsg slot message; moment = moment } in
    sym (ap not (third (is_fresh switch.phase && true) (not (is_slot p slot)) (up_after p switch sides timed slot) (down_before p switch sides timed slot before stays))))

begun_goes : (here : Bool) (phase : Phase) → is_before phase ≡ true → (is_begun phase && here) ≡ not ((is_fresh phase && true) || not here || false)
begun_goes true = early (λ phase. (is_begun phase && true) ≡ not ((is_fresh phase && true) || not true || false)) refl refl
begun_goes false = early (λ phase. (is_begun phase && false) ≡ not ((is_fresh phase && true) || not false || false)) refl refl

pub none_down : (desk : Desk) (slot moment : ℕ) → desk.session ≡ None → Acts desk (record { event = SliceDown slot; moment = moment }) (is_begun_with desk.phase desk.policy slot) desk
none_down desk slot moment none =
    none_acts desk (SliceDown slot) moment (is_begun_with desk.phase desk.policy slot) none (λ switch. slices_switch switch (SliceDown slot) refl) (λ f. early (λ phase. lane_in f phase (SliceDown slot) ≡ []) refl refl)
    (λ p switch sides same_phase same_policy before stays. ap₂ (λ (k : Phase) (v : PolicyView). is_begun_with k v slot) same_phase same_policy ∙ begun_goes (is_slot p slot) switch.phase before)

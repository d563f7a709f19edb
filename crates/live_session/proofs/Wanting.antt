-- Takes, one after another, and what they gave.
use Rattle.std.proofs.Common.{◌≡◌, ℕ, ◌+◌, List, [], ◌∷◌, ◌++◌, refl, sym, ap, subst, ◌∙◌, append_assoc, append-nil, arith}
use Rattle.std.proofs.lemmas.List.{length-append}
use Rattle.desk_words.specs.declared.dest.Dest.{Dest}
use Rattle.desk_words.specs.declared.taken.Taken.{Taken}
use Rattle.turn_desk.specs.Histories.{Called}
use Rattle.live_desk.specs.declared.object.DeskOp.TheVariants.{Take}
use Rattle.live_desk.specs.declared.object.DeskReply.TheVariants.{Stepped, Took}
use Rattle.live_session.specs.declared.ends.WriterEnd.{WriterEnd}
use Rattle.live_session.specs.declared.ends.WriterEnd.TheVariants.{WriteFault, Choked, Ended, Spent}
use Rattle.live_session.specs.declared.writer.Pause.{Pause}
use Rattle.live_session.specs.declared.writer.Pause.TheVariants.{Over}
use Rattle.live_desk.specs.Operates.{Operates}
use Rattle.live_session.specs.Stretches.{DeskCall}
use Rattle.live_session.specs.Takings.{View, given_by, message_replied, joined_messages, AreTakes, Taking, TookOne, in_hand, PausedBy, Gathers}
use Rattle.std.specs.Prelude.{Option, Some, None}
use Rattle.fv_base.specs.Told.{appended, IsBeginning}
use Rattle.live_session.specs.Takings.{WrittenBy, Written}
use Rattle.turn_desk.proofs.Making.{made_none, made_one, made_more, acted}
use Rattle.live_session.proofs.Making.{last_more}

pub joined_append : (xs ys : List DeskCall) → joined_messages (xs ++ ys) ≡ joined_messages xs ++ joined_messages ys
joined_append [] ys = refl
joined_append (c ∷ xs) ys = ap (λ l. message_replied c.reply ++ l) (joined_append xs ys) ∙ sym (append_assoc (message_replied c.reply) (joined_messages xs) (joined_messages ys))

takes_append : (dest : Dest) (xs ys : List DeskCall) → AreTakes dest xs → AreTakes dest ys → AreTakes dest (xs ++ ys)
takes_append dest [] ys h k = k
takes_append dest (c ∷ xs) ys h k = (h.0, takes_append dest xs ys h.1 k)

pub taking_none : (dest : Dest) (v : View) (left : ℕ) → Taking dest v left [] v left
taking_none dest v left = record { made = made_none _ v; takes = tt; fewer = omega arith }

pub taking_one : (dest : Dest) (v w : View) (left left' : ℕ) (answer : Taken) → Called Operates v (Take dest) (Took answer) w → left' + 1 ≡ left → TookOne dest v left answer w left'
taking_one dest v w left left' answer c f = record { made = made_one _ v w (Take dest) (Took answer) c; takes = (refl, tt); fewer = f }

-- a take isn't replied as a step
pub not_stepped : (dest : Dest) (v w : View) (r : _) → Called Operates v (Take dest) (Stepped r) w → ⊥
not_stepped dest v w r c = (acted _ v w (Take dest) (Stepped r) c).2

pub taking_more : (dest : Dest) (u v w : View) (l m n : ℕ) (xs ys : List DeskCall) → Taking dest u l xs v m → Taking dest v m ys w n → Taking dest u l (xs ++ ys) w n
taking_more dest u v w l m n xs ys h k = record {
  made = made_more _ u v w xs ys h.made k.made;
  takes = takes_append dest xs ys h.takes k.takes;
  fewer = let s = length-append xs ys in let i = h.fewer in let j = k.fewer in omega (arith, s, i, j);
}

-- one more take, after which it pauses
pub gathers_one : (dest : Dest) (v w u : View) (left m n : ℕ) (before mid after : List ℕ) (pause : Pause) (calls : List DeskCall) (answer : Taken) → Taking dest v left calls w m → mid ≡ before ++ joined_messages calls → TookOne dest w m answer u n
    → (after ++ in_hand pause) ≡ mid ++ given_by answer → PausedBy pause (calls ++ record { op = Take dest; reply = Took answer } ∷ []) n → Gathers dest v left before pause u n after
gathers_one dest v w u left m n before mid after pause calls answer h e k b p =
    let one = record { op = Take dest; reply = Took answer } ∷ [] in
    let last : joined_messages one ≡ given_by answer = append-nil (given_by answer) in
    record {
      calls = calls ++ one;
      took = taking_more dest v w u left m n calls one h k;
      bytes = b ∙ (ap (λ l. l ++ given_by answer) e ∙ (append_assoc before (joined_messages calls) (given_by answer) ∙ ap (λ l. before ++ l) (ap (λ l. joined_messages calls ++ l) (sym last) ∙ sym (joined_append calls one))));
      paused = p;
    }

-- one more message in the buffer
pub buffer_more : (dest : Dest) (before mid after : List ℕ) (calls : List DeskCall) (frame : List ℕ) (answer : Taken) → mid ≡ before ++ joined_messages calls → after ≡ mid ++ frame → given_by answer ≡ frame
    → after ≡ before ++ joined_messages (calls ++ record { op = Take dest; reply = Took answer } ∷ [])
buffer_more dest before mid after calls frame answer e b g =
    let one = record { op = Take dest; reply = Took answer } ∷ [] in
    let last : joined_messages one ≡ frame = append-nil (given_by answer) ∙ g in
    b ∙ (ap (λ l. l ++ frame) e ∙ (append_assoc before (joined_messages calls) frame ∙ ap (λ l. before ++ l) (ap (λ l. joined_messages calls ++ l) (sym last) ∙ sym (joined_append calls one))))

-- ---- what is put

pub appended_twice : (told : Option (List ℕ)) (xs ys : List ℕ) → appended (appended told xs) ys ≡ appended told (xs ++ ys)
appended_twice None xs ys = refl
appended_twice (Some before) xs ys = ap Some (append_assoc before xs ys)

pub prefix_longer : (piece xs ys : List ℕ) → IsBeginning piece xs → IsBeginning piece (xs ++ ys)
prefix_longer piece xs ys h = (h.0 ++ ys, sym (append_assoc piece h.0 ys) ∙ ap (λ l. l ++ ys) h.1)

pub prefix_behind : (xs piece ys : List ℕ) → IsBeginning piece ys → IsBeginning (xs ++ piece) (xs ++ ys)
prefix_behind xs piece ys h = (h.0, append_assoc xs piece h.0 ∙ ap (λ l. xs ++ l) h.1)

-- what was taken so far was put, and now the rest is
pub put_more : (told mid after : Option (List ℕ)) (xs ys : List DeskCall) (bytes : List ℕ) → mid ≡ appended told (joined_messages xs) → after ≡ appended mid bytes → bytes ≡ joined_messages ys → after ≡ appended told (joined_messages (xs ++ ys))
put_more told mid after xs ys bytes h k e = k ∙ (ap (λ t. appended t bytes) h ∙ (appended_twice told (joined_messages xs) bytes ∙ ap (appended told) (ap (λ l. joined_messages xs ++ l) e ∙ sym (joined_append xs ys))))

-- a buffer that was empty has what was gathered
pub gathered_all : (dest : Dest) (v w : View) (left n : ℕ) (before after : List ℕ) (pause : Pause) → before ≡ [] → (k : Gathers dest v left before pause w n after) → (after ++ in_hand pause) ≡ joined_messages k.calls
gathered_all dest v w left n before after pause e k = k.bytes ∙ ap (λ b. b ++ joined_messages k.calls) e

pub written_fault : (dest : Dest) (u v w : View) (l m n : ℕ) (told mid after : Option (List ℕ)) (before buffer : List ℕ) (pause : Pause) (xs : List DeskCall) → Taking dest u l xs v m → mid ≡ appended told (joined_messages xs) → before ≡ []
    → (k : Gathers dest v m before pause w n buffer) → (p : (piece : List ℕ) × IsBeginning piece (buffer ++ in_hand pause) × (after ≡ appended mid piece)) → Written dest u l told WriteFault after w n
written_fault dest u v w l m n told mid after before buffer pause xs h e b k p =
    let whole : (buffer ++ in_hand pause) ≡ joined_messages k.calls = gathered_all dest v w m n before buffer pause b k in
    record {
      calls = xs ++ k.calls;
      piece = joined_messages xs ++ p.0;
      took = taking_more dest u v w l m n xs k.calls h k.took;
      put = p.2 ∙ (ap (λ t. appended t p.0) e ∙ appended_twice told (joined_messages xs) p.0);
      written = subst (λ all. IsBeginning (joined_messages xs ++ p.0) all) (sym (joined_append xs k.calls)) (prefix_behind (joined_messages xs) p.0 (joined_messages k.calls) (subst (λ all. IsBeginning p.0 all) whole p.1));
    }

over_so : (end : WriterEnd) (piece : List ℕ) (xs ys : List DeskCall) (left : ℕ) → piece ≡ joined_messages (xs ++ ys) → PausedBy (Over end) ys left → WrittenBy end piece (xs ++ ys) left
over_so WriteFault piece xs ys left e p = absurd p
over_so Choked piece xs ys left e p = (e, last_more _ xs ys p)
over_so Ended piece xs ys left e p = (e, last_more _ xs ys p)
over_so Spent piece xs ys left e p = (e, p)

pub written_over : (dest : Dest) (u v w : View) (l m n : ℕ) (told mid after : Option (List ℕ)) (before buffer : List ℕ) (end : WriterEnd) (pause : Pause) (xs : List DeskCall) → pause ≡ Over end → Taking dest u l xs v m → mid ≡ appended told (joined_messages xs) → before ≡ []
    → Gathers dest v m before pause w n buffer → after ≡ appended mid (buffer ++ in_hand pause) → Written dest u l told end after w n
written_over dest u v w l m n told mid after before buffer end pause xs is h e b k p = record {
  calls = xs ++ k.calls;
  piece = joined_messages (xs ++ k.calls);
  took = taking_more dest u v w l m n xs k.calls h k.took;
  put = put_more told mid after xs k.calls (buffer ++ in_hand pause) e p (gathered_all dest v w m n before buffer pause b k);
  written = over_so end (joined_messages (xs ++ k.calls)) xs k.calls n refl (subst (λ q. PausedBy q k.calls n) is k.paused);
}

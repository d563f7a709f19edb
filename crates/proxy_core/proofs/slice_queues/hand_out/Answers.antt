use Rattle.std.proofs.Common.{◌≡◌, ℕ, List, [], ◌∷◌, ◌++◌, ap, sym, ◌∙◌, subst, reverse, arith}
use Rattle.std.proofs.lemmas.List.{nil_from_length, reverse-append}
use Rattle.proxy_core.specs.Handing.{HaveRoom, AreHanded}
use Rattle.proxy_core.proofs.Handed.{none_handed, handed_more}
use Rattle.proxy_core.proofs.slice_queues.hand_out.Goals as goal

-- what is taken from the end is the first of what was turned round
first_is : (messages others : List (ℕ × List ℕ)) (slot : ℕ) (message : List ℕ) → messages ≡ others ++ (slot, message) ∷ [] → reverse messages ≡ (slot, message) ∷ reverse others
first_is messages others slot message is = ap reverse is ∙ reverse-append others ((slot, message) ∷ [])

pub loop-slot-preserved : goal.loop-slot-preserved
loop-slot-preserved c =
    let at = c.loop-slot in
    let others = reverse c.pop.new.self.items in
    let first = first_is at.messages.items c.pop.new.self.items c.in-Some.slot c.in-Some.message c.in-Some.ensures.items in
    record {
      room = c.put.ensures.room others (subst (λ m. HaveRoom m at.queues.items) first at.invariant.room);
      handed = λ later h. at.invariant.handed later (subst (λ m. AreHanded m at.queues.items later) (sym first)
          (handed_more c.in-Some.slot c.in-Some.message others at.queues.items c.put.new.queues.items later c.put.ensures.handed h));
    }

pub returns-clause-handed : goal.returns-clause-handed
returns-clause-handed c =
    let at = c.loop-slot in
    let none : reverse at.messages.items ≡ [] = ap reverse (nil_from_length at.messages.items (omega (arith, c.in_default.ensures.cases.0))) in
    at.invariant.handed at.queues.items (subst (λ m. AreHanded m at.queues.items at.queues.items) (sym none) (none_handed at.queues.items))

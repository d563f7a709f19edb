use Rattle.port_view.proofs.view.tell.Goals as goal

pub place_of-place-requires : goal.place_of-place-requires
place_of-place-requires c = rw c.deref.ensures.value c.requires

use Rattle.str_merge.proofs.pooling.place_in_parallel.Goals as goal

pub join_mut-done-requires-after_bounds : goal.join_mut-done-requires-after_bounds
join_mut-done-requires-after_bounds g c κs bound = (
  (c.requires.align, c.requires.most, c.requires.members, c.requires.near, c.requires.few, c.requires.wide, c.in_ok-own.ensures, c.in_ok-placed.ensures.pieces, c.in_ok-placed.ensures.size),
  (c.requires.members, c.requires.near, c.requires.few, c.requires.wide),
)

use Rattle.idx_scatter.proofs.walk.plane.Goals as goal

pub paces-requires-clause-rows : goal.paces-requires-clause-rows
paces-requires-clause-rows g c = (c.requires.fits 0 c.requires.slower).0

pub paces-requires-clause-row : goal.paces-requires-clause-row
paces-requires-clause-row g c = ((c.requires.fits 0 c.requires.slower).1 0 c.requires.counted).0

pub even_plane-requires-clause-even : goal.even_plane-requires-clause-even
even_plane-requires-clause-even g c = λ j k below lt. c.in-Some.ensures j k (c.requires.within 0 c.requires.slower 0 c.requires.counted).ordered

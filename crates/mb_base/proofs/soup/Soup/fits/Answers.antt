use Rattle.mb_base.proofs.Fits.{mesh_of, fits_of}
use Rattle.mb_base.proofs.soup.Soup.fits.Goals.{then-not-are_few-via-then-not-are_few, then-not-are_few-via-else-not-are_few+then-not-are_triples}
use Rattle.mb_base.proofs.soup.Soup.fits.Goals as goal

pub returns : goal.returns
returns c =
    let few = c.are_few.ensures.0 c.if-not-are_few.false in
    let sound = c.are_triples.ensures.0 c.if-not-are_triples.false in (
      λ yes. mesh_of _ _ (record { sound = sound; used = c.are_used.ensures.0 yes; few_points = few.0; few_triples = few.1 }),
      λ mesh. c.are_used.ensures.1 (fits_of _ _ mesh).used,
    )

pub returns-then-not-are_few : goal.returns-then-not-are_few
returns-then-not-are_few c = (
  λ no. cc,
  λ mesh.
      let fits = fits_of _ _ mesh in
      elim c.then-not-are_few.branch [
        | then-not-are_few-via-then-not-are_few w ↦ cc (c.are_few.ensures.1 (fits.few_points, fits.few_triples))
        | then-not-are_few-via-else-not-are_few+then-not-are_triples w ↦ cc (w.are_triples.ensures.1 fits.sound)
      ],
)

-- `push::fits` meets its contract: the words used, the count and the places are the size.
-- Assumes nothing.
use Rattle.builder.proofs.BuiltLaws.{fits_is}
use Rattle.builder.proofs.push.fits.Goals as goal

pub returns : goal.returns
returns c = λ ws x h. fits_is ws _ x _ h

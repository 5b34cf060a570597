-- What is listed spells exactly what is equal, by listed_exact.
use Rattle.theory.proofs.Listings.{listed_exact}
use Rattle.theory.proofs.listing_spells_class.Goals as goal

pub returns : goal.returns
returns c = listed_exact

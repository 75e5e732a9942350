use Rattle.std.proofs.Common.{◌≡◌, ◌∷◌, [], rules}
use Rattle.job_exec.specs.Listing.{listing_of}
use Rattle.job_exec.proofs.Fits.{listing_fits}
use Rattle.job_exec.proofs.listings.listing.Goals as goal

pub returns-clause-fits : goal.returns-clause-fits
returns-clause-fits c fields short text =
    let whole : c.push-2.new.self ≡ listing_of c.args.fields.now c.args.line.now ∷ [] = search rules in
    rw whole (listing_fits c.args.fields.now c.args.line.now fields short text)

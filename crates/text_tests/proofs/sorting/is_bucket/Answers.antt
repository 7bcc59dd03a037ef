use Rattle.std.proofs.Common.{length, ap, arith}
use Rattle.places_by_key.specs.Buckets.{places_of}
use Rattle.places_by_key.proofs.Upto.{length-map-upto}
use Rattle.text_tests.proofs.sorting.is_bucket.Goals as goal

pub bucket-requires : goal.bucket-requires
bucket-requires c = omega (arith, c.if-k-count.false, ap length c.in_ok-buckets.ensures, length-map-upto (places_of c.args.keys.now) c.args.count)

-- Which numbers are places: those up to the memory's.
use Rattle.std.proofs.Common.{◌≡◌, ℕ, nat_le, arith}
use Rattle.std.proofs.lemmas.Bool.Decides.{nat_tests}
use Rattle.avr.specs.Table.{memory_place}
use Rattle.secrecy.specs.Rows.{place_columns, is_place}
use Rattle.secrecy.proofs.Columns.{among-range}

pub place_number : (p : ℕ) → nat_le p memory_place ≡ is_place p
unfolding place_columns
place_number p = grind (arith, nat_tests, among-range 0 35 p)

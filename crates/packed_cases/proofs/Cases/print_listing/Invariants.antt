use Rattle.cursor.specs.Left.{left}
use Rattle.packed_cases.proofs.Cases.print_listing.Given as goal

abbrev pub decreases-loop : goal.decreases-loop
decreases-loop l = left l.listing.cursor

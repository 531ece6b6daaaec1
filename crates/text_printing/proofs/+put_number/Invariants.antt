-- `text_printing::put_number` ends: the number falls.
use Rattle.text_printing.proofs.+put_number.Given as goal

abbrev pub decreases-put_number : goal.decreases-put_number
decreases-put_number l = l.x

-- `put_hexadecimal`: the width falls.
use Rattle.recording_writer.proofs.+put_hexadecimal.Given as goal

abbrev pub decreases-put_hexadecimal : goal.decreases-put_hexadecimal
decreases-put_hexadecimal l = l.width

-- `transcript::fields::put_setting` meets its contract: the text goes by the setting.
use Rattle.text.proofs.Places.{puts_then}
use Rattle.transcript.proofs.fields.put_setting.Goals as goal

pub returns-in-Mode : goal.returns-in-Mode
returns-in-Mode c =
    rw c.in-Mode.is (puts_then c.put.ensures (rw c.from.ensures at c.put_number.ensures))

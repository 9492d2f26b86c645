-- `writing::put_byte` meets its contract. Assumes nothing.
use Rattle.writing.proofs.Written.{put_byte_done}
use Rattle.writing.proofs.put_byte.Goals as goal

pub returns : goal.returns
returns c = search put_byte_done

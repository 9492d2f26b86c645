-- `exposed_samples::put_sign` meets its contract. Assumes nothing.
use Rattle.exposed_samples.proofs.Values.{sign_room, sign_put, no_sign_put}
use Rattle.exposed_samples.proofs.put_sign.Goals as goal

pub put_byte-requires : goal.put_byte-requires
put_byte-requires c = search sign_room

pub returns-then-signed : goal.returns-then-signed
returns-then-signed c = search sign_put

pub returns-else-signed : goal.returns-else-signed
returns-else-signed c = search no_sign_put

use Rattle.channel.proofs.Sides.{sides_are_sound}
use Rattle.channel.proofs.Records.{sides_record}
use Rattle.channel.proofs.ByNumber.{sides_number}
use Rattle.channel.proofs.laws.sides_are_sound.Goals as goal

pub returns-clause-sound : goal.returns-clause-sound
returns-clause-sound c = sides_are_sound

pub returns-clause-recorded : goal.returns-clause-recorded
returns-clause-recorded c = sides_record

pub returns-clause-numbered : goal.returns-clause-numbered
returns-clause-numbered c = sides_number

use Rattle.netting.proofs.Choice.{one_greatest, greatest_is_chosen, same_morning, grows_with_covers}
use Rattle.netting.proofs.Mornings.{worked_mornings}
use Rattle.netting.proofs.Offers.{positions_sound}
use Rattle.netting.proofs.laws.laws_stand.Goals as goal

pub returns : goal.returns
returns c =
    record {
      one_greatest = one_greatest;
      chosen = greatest_is_chosen;
      same_morning = same_morning;
      grows = grows_with_covers;
      always_sound = λ houses rs S positions. positions_sound rs S houses positions;
      worked = worked_mornings;
    }

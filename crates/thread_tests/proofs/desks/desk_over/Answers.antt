use Rattle.thread_tests.proofs.desks.desk_over.Goals as goal

pub returns : goal.returns
returns g c = λ k d h. (c.in-Ok.ensures.seats.each k d h).seat_of

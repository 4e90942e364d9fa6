mod Rounds

mod StayLemmas

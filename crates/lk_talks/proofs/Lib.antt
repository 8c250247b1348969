mod SoughtLemmas

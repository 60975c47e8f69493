mod LimitNumbers
